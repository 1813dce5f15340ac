-- What a division by the generator keeps: at each root, the value of the row.
use Rattle.std.proofs.Common.{◌≡◌, ℕ, suc, ◌+◌, ◌-◌, ◌<◌, ◌≤◌, List, length, get_or, take, drop, sym, refl, ap, ◌∙◌, subst, ap₂, arith, length-drop, get_or-drop, get_or-take}
use native.Mathlib.Decide.{dec_lt}
use borrow.Rule.Slice.PartMut.{put_mid}
use Rattle.field.specs.Meaning.{Meaning, Laws}
use Rattle.field.specs.Symbols.{Within}
use Rattle.field.specs.Sums.{value}
use Rattle.field.specs.Rows.{Added}
use Rattle.field.specs.Lifted.{lift, poly, sym_of}
use Rattle.field.proofs.Parts.{cut, put_low, put_middle, put_high}
use Rattle.field.proofs.Lifting as B
use Rattle.algebra.proofs.Roots as R
use Rattle.algebra.proofs.Division as D
use Rattle.encoder.specs.Register.{Generates, Divided}

-- at each root the first i places of the row now have the value of the whole row as it was
pub record Dividing (f : Meaning) (b r i : ℕ) (old now : List ℕ) : Type 0 where
  pub within : Within f.q now
  pub values : (j : ℕ) → j < r → value f (length old) old (b + j) ≡ value f i now (b + j)

-- nothing is taken off yet, and all is
pub dividing_none : (f : Meaning) (b r : ℕ) (row : List ℕ) → Within f.q row → Dividing f b r (length row) row row
dividing_none f b r row h = record { within = h; values = λ j _. refl }

pub dividing_all : (f : Meaning) (b r i : ℕ) (old now : List ℕ) → i ≡ r → Dividing f b r i old now → Divided f b r old now
dividing_all f b r i old now e d = record { within = d.within; values = λ j h. d.values j h ∙ ap (λ n. value f n now (b + j)) e }

-- the places d to d + r - 1 take a multiple of the generator, and the others stay
pub record Taken (f : Meaning) (c d r : ℕ) (g old new : List ℕ) : Type 0 where
  pub low : (i : ℕ) → i < d → get_or new i 0 ≡ get_or old i 0
  pub mid : (i : ℕ) → i < r → get_or new (d + i) 0 ≡ f.sum (get_or old (d + i) 0) (f.prod c (get_or g i 0))
  pub high : (i : ℕ) → d + r ≤ i → get_or new i 0 ≡ get_or old i 0

-- what adding a multiple to a part of a row does to the row
pub taken : (f : Meaning) (c a k n : ℕ) (g xs ys : List ℕ) → n ≡ k → k ≤ length g → a + k ≤ length xs → length ys ≡ length (take k (drop a xs)) → c < f.q → Within f.q g → Within f.q xs
    → Added f c (take n g) (take k (drop a xs)) ys → Taken f c a k g xs (put_mid a k xs ys)
taken f c a k n g xs ys en hg hx ly hc g_in xs-in s =
    let lx : length (take k (drop a xs)) ≡ k = cut k (drop a xs) (let e = length-drop a xs in omega arith) in
    let lg : length (take n g) ≡ k = ap (λ (m : ℕ). length (take m g)) en ∙ cut k g hg in
    let part : (i : ℕ) → i < k → get_or (take k (drop a xs)) i 0 ≡ get_or xs (a + i) 0 = λ i h. get_or-take k (drop a xs) i 0 h ∙ get_or-drop a xs i 0 in
    let by : (i : ℕ) → i < k → get_or (take n g) i 0 ≡ get_or g i 0 = λ i h. get_or-take n g i 0 (omega arith) in
    record {
      low = put_low a k xs ys (omega arith);
      mid = λ i h. put_middle a k xs ys (omega arith) i (omega arith)
          ∙ s.done i (omega arith) (omega arith) hc (rw (by i h) (g_in i)) (rw (part i h) (xs-in (a + i))) ∙ ap₂ (λ x y. f.sum x (f.prod c y)) (part i h) (by i h);
      high = put_high a k xs ys (omega arith) (omega arith);
    }

module _ (f : Meaning) (l : Laws f) where
  pub taken_in : (c d r : ℕ) (g old new : List ℕ) → c < f.q → Within f.q g → Within f.q old → Taken f c d r g old new → Within f.q new
  taken_in c d r g old new hc hg ho t i = elim (dec_lt i d) [
    | yes h ↦ rw (t.low i h) (ho i)
    | no h ↦ elim (dec_lt i (d + r)) [
      | yes k ↦ let e : i ≡ d + (i - d) = omega arith in
          subst (λ n. n < f.q) (sym (ap (λ n. get_or new n 0) e ∙ t.mid (i - d) (omega arith))) (l.sum_in _ _ (ho _) (l.prod_in _ _ hc (hg _)))
      | no k ↦ rw (t.high i (omega arith)) (ho i)
    ]
  ]

  pub dividing_more : (b r d n i c : ℕ) (g old now new : List ℕ) → n ≡ r → i ≡ d + n → Generates f b r g → c ≡ f.opp (get_or now i 0) → Dividing f b r (suc i) old now → Taken f c d n g now new
      → Dividing f b r i old new
  dividing_more b r d n i c g old now new en ei gen ce k t = record { within = new_in; values = each }
    where
      top : poly f l now i ≡ poly f l now (d + r)
      top = ap (poly f l now) (omega arith)

      c_in : c < f.q
      c_in = rw ce (l.opp_in _ (k.within i))

      new_in : Within f.q new
      new_in = taken_in c d n g now new c_in gen.within k.within t

      each : (j : ℕ) → j < r → value f (length old) old (b + j) ≡ value f i new (b + j)
      each j h =
          let F = lift f l in
          let z = B.root f l (b + j) in
          let same = B.same_of f l _ _ (B.value_in f l (suc i) now (b + j) k.within) (B.value_in f l i new (b + j) new_in) in
          k.values j h ∙ same (B.value_of f l (suc i) now (b + j) k.within
          ∙ ap (λ m. R.ev F m (poly f l now) z) (omega arith)
          ∙ D.divided F d r (poly f l g) (poly f l now) (poly f l new) z
          (ap (sym_of f l) gen.top ∙ B.one_of f l)
          (sym (B.value_of f l (suc r) g (b + j) gen.within) ∙ B.nil_to f l _ (gen.roots j h))
          (λ m y. ap (sym_of f l) (t.low m y))
          (λ m y. ap (sym_of f l) (t.mid m (omega arith)) ∙ B.sum_of f l _ _ (k.within (d + m)) (l.prod_in _ _ c_in (gen.within m))
          ∙ ap (F.◌⊕◌ (poly f l now (d + m))) (B.prod_of f l c _ c_in (gen.within m) ∙ ap (λ u. F.◌⊗◌ u (poly f l g m)) (ap (sym_of f l) ce ∙ B.opp_of f l _ (k.within i) ∙ ap F.neg top)))
          ∙ ap (λ m. R.ev F m (poly f l new) z) (omega arith)
          ∙ sym (B.value_of f l i new (b + j) new_in))
