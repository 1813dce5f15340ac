-- The loops over rows of symbols: what a turn of each keeps, and what the finished rows are as polynomials.
use Rattle.std.proofs.Common.{◌≡◌, ℕ, zero, suc, ◌+◌, ◌-◌, ◌<◌, ◌≤◌, List, [], ◌∷◌, length, get_or, set, replicate, take, drop, sym, refl, ap, ◌∙◌, subst, ap₂, add-one, le_refl, arith, get_or-drop, get_or-take}
use native.Mathlib.Decide.{dec_lt}
use borrow.Rule.Slice.PartMut.{put_mid}
use Rattle.std.proofs.lemmas.List.{get_or_append_left}
use Rattle.field.specs.Meaning.{Meaning, Laws}
use Rattle.field.specs.Symbols.{Within}
use Rattle.field.specs.Lifted.{lift, poly, sym_of}
use Rattle.field.proofs.Symbols.{within_from}
use Rattle.field.proofs.Parts.{put_high}
use Rattle.encoder.proofs.Writing.{Written, written_more}
use Rattle.field.proofs.Lifting as B
use Rattle.algebra.proofs.Division as D
use Rattle.code.specs.Words.{Word}
use Rattle.encoder.specs.Register.{Turned}

-- what stands in the place below i, and 0 below all places
abbrev pub beneath : List ℕ → ℕ → ℕ
beneath xs zero = 0
beneath xs (suc i) = get_or xs i 0

-- what a place owes to the one below it
abbrev pub Turns : Meaning → ℕ → List ℕ → List ℕ → ℕ → ℕ → ℕ → Type 0
Turns f c from old i x y = y ≡ f.sum (beneath old i) (f.prod c (get_or from i 0))

-- the places before i are done, and what stood in the last of them is at hand
abbrev pub Turning : Meaning → ℕ → ℕ → ℕ → List ℕ → List ℕ → List ℕ → Type 0
Turning f c i below from old now = (below ≡ beneath old i) × Written (Turns f c from old) i old now

module _ (f : Meaning) (l : Laws f) (c : ℕ) (c_in : c < f.q) (from old : List ℕ) (from-in : Within f.q from) (old-in : Within f.q old) where
  beneath_in : (i : ℕ) → beneath old i < f.q
  beneath_in zero = omega (arith, l.q_low)
  beneath_in (suc i) = old-in i

  pub turning_more : (now : List ℕ) (i below y s : ℕ) → i < length now → Turning f c i below from old now → y ≡ get_or from i 0
      → (c < f.q → y < f.q → below < f.q → s ≡ f.sum (f.prod c y) below) → Turning f c (i + 1) (get_or now i 0) from old (set now i s)
  turning_more now i below y s h t ey es =
      let y_in : y < f.q = rw ey (from-in i) in
      let b_in : below < f.q = rw t.0 (beneath_in i) in
      let s_is : s ≡ f.sum (beneath old i) (f.prod c (get_or from i 0)) =
      es c_in y_in b_in ∙ ap₂ (λ (a b : ℕ). f.sum (f.prod c a) b) ey t.0 ∙ l.sum_comm _ _ (l.prod_in _ _ c_in (from-in i)) (beneath_in i) in (
        t.1.rest i (le_refl i) ∙ ap (beneath old) (sym (add-one i)),
        written_more (Turns f c from old) i old now s h t.1 s_is,
      )

  pub turned_all : (now : List ℕ) (i below : ℕ) → i ≡ length old → 0 < length old → Turning f c i below from old now → Turned f c (length old - 1) from old now
  turned_all now i below e some t = record {
    first = t.1.done 0 (omega arith) ∙ l.sum_comm _ _ (beneath_in 0) p_in ∙ l.sum_zero _ p_in;
    later = λ j h. t.1.done (suc j) (omega arith);
    rest = λ j h. t.1.rest j (omega arith);
  }
    where
      p_in : f.prod c (get_or from 0 0) < f.q
      p_in = l.prod_in _ _ c_in (from-in 0)

pub zeros_at : (n i : ℕ) → ◌≡◌ {A = ℕ} (get_or (replicate n 0) i 0) 0
zeros_at zero i = refl
zeros_at (suc n) zero = refl
zeros_at (suc n) (suc i) = zeros_at n i

-- what a turn of the first places of a row does to the row
pub turned_part : (f : Meaning) (c k n : ℕ) (g ys : List ℕ) → n ≡ suc (suc k) → n ≤ length g → length ys ≡ length (take n g) → length (take n g) ≡ n
    → Turned f c (length (take n g) - 1) (take n g) (take n g) ys → Turned f c (suc k) g g (put_mid 0 n g ys)
turned_part f c k n g ys e hn long cut t = record {
  first = get_or_append_left ys _ 0 0 (omega arith) ∙ t.first ∙ ap (f.prod c) (get_or-take n g 0 0 (omega arith));
  later = λ i h. get_or_append_left ys _ 0 (suc i) (omega arith) ∙ t.later i (omega arith)
      ∙ ap₂ (λ x y. f.sum x (f.prod c y)) (get_or-take n g i 0 (omega arith)) (get_or-take n g (suc i) 0 (omega arith));
  rest = λ i h. put_high 0 n g ys (omega arith) (omega arith) i (omega arith);
}

module _ (f : Meaning) (l : Laws f) where
  -- rows of symbols stay rows of symbols
  pub word_in : (q n : ℕ) (w : List ℕ) → f.q ≡ q → Word q n w → Within f.q w
  word_in q n w size h = within_from f.q w (omega (arith, l.q_low)) (rw size h.symbols)

  pub take_in : (n : ℕ) (xs : List ℕ) → Within f.q xs → Within f.q (take n xs)
  take_in zero xs h i = omega (arith, l.q_low)
  take_in (suc n) [] h i = omega (arith, l.q_low)
  take_in (suc n) (x ∷ xs) h zero = h 0
  take_in (suc n) (x ∷ xs) h (suc i) = take_in n xs (λ j. h (suc j)) i

  pub drop_in : (n : ℕ) (xs : List ℕ) → Within f.q xs → Within f.q (drop n xs)
  drop_in n xs h i = rw (get_or-drop n xs i 0) (h (n + i))

  pub turned_in : (c top : ℕ) (from old new : List ℕ) → Turned f c top from old new → c < f.q → Within f.q from → Within f.q old → Within f.q new
  turned_in c top from old new t hc hf ho zero = subst (λ n. n < f.q) (sym t.first) (l.prod_in _ _ hc (hf 0))
  turned_in c top from old new t hc hf ho (suc i) = elim (dec_lt i top) [
    | yes h ↦ subst (λ n. n < f.q) (sym (t.later i h)) (l.sum_in _ _ (ho i) (l.prod_in _ _ hc (hf (suc i))))
    | no h ↦ subst (λ n. n < f.q) (sym (t.rest (suc i) (omega arith))) (ho (suc i))
  ]

  -- the same of the polynomials
  pub turned_poly : (c top : ℕ) (from old new : List ℕ) → Turned f c top from old new → c < f.q → Within f.q from → Within f.q old
      → D.Turned (lift f l) (sym_of f l c) (suc top) (poly f l from) (poly f l old) (poly f l new)
  turned_poly c top from old new t hc hf ho = record {
    first = λ h. ap (sym_of f l) t.first ∙ B.prod_of f l c _ hc (hf 0);
    later = λ i h. ap (sym_of f l) (t.later i (omega arith)) ∙ B.sum_of f l _ _ (ho i) (l.prod_in _ _ hc (hf (suc i)))
        ∙ ap ((lift f l).◌⊕◌ (sym_of f l (get_or old i 0))) (B.prod_of f l c _ hc (hf (suc i)));
  }
