-- What the register holds: with the part of the message that it took in, it is 0 at every root.
use Rattle.std.proofs.Common.{◌≡◌, ℕ, suc, ◌+◌, ◌-◌, ◌<◌, ◌≤◌, List, ◌++◌, length, get_or, reverse, drop, sym, refl, ap, ◌∙◌, subst, ap₂, add-zero, arith, length-append, length-drop, get_or-drop}
use Prim.Native.Nat.{Fin}
use native.Mathlib.Decide.{dec_lt}
use Rattle.std.proofs.lemmas.List.{get_or_append_left, get_or-append_right, get_or-reverse, get_or_default, length-reverse}
use Rattle.field.specs.Meaning.{Meaning, Laws}
use Rattle.field.specs.Symbols.{Within}
use Rattle.field.specs.Sums.{value}
use Rattle.field.specs.Lifted.{lift, poly, sym_of}
use Rattle.field.proofs.Lifting as B
use Rattle.algebra.specs.Field.{Field}
use Rattle.algebra.proofs.Convolution as C
use Rattle.algebra.proofs.Roots as R
use Rattle.algebra.proofs.Division as D
use Rattle.encoder.specs.Register.{Turned, Generates}
use Rattle.encoder.proofs.Turns as T

-- the register v with the message m from its place i on is 0 at each root
pub record Holding (f : Meaning) (b r i : ℕ) (m v : List ℕ) : Type 0 where
  pub within : Within f.q v
  pub zeros : (l : Laws f) (j : ℕ) → j < r → (lift f l).◌⊕◌ (R.ev (lift f l) r (poly f l v) (B.root f l (b + j)))
      ((lift f l).◌⊗◌ (R.pow (lift f l) (B.root f l (b + j)) r) (R.ev (lift f l) (length m - i) (λ k. poly f l m (i + k)) (B.root f l (b + j)))) ≡ (lift f l).𝟘

pub append_in : (q : ℕ) (v m : List ℕ) → Within q v → Within q m → Within q (v ++ m)
append_in q v m hv hm i = elim (dec_lt i (length v)) [
  | yes h ↦ rw (get_or_append_left v m 0 i h) (hv i)
  | no h ↦ rw (get_or-append_right v m (length v) i 0 refl (omega arith)) (hm (i - length v))
]

-- what comes n places before the last
pub from_end : (m : List ℕ) (n x : ℕ) → n < length (reverse m) → x ≡ get_or (reverse m) n x → (n < length m) × (x ≡ get_or m (length m - 1 - n) 0)
from_end m n x h e =
    let low : n < length m = omega (arith, length-reverse m) in
    (low, e ∙ get_or-reverse m n x low ∙ get_or_default m _ x 0 (omega arith))

-- the same in m, of which xs are the last places
pub from_tail : (m xs : List ℕ) (n x : ℕ) → xs ≡ drop (length m - length xs) m → n < length (reverse xs) → x ≡ get_or (reverse xs) n x
    → (n < length m) × (x ≡ get_or m (length m - 1 - n) 0)
from_tail m xs n x t h e =
    let p = from_end xs n x h e in
    let low : n < length xs = p.0 in
    let few : length xs ≤ length m = omega (arith, ap length t, length-drop (length m - length xs) m) in (
      omega arith,
      p.1 ∙ ap (λ ys. get_or ys (length xs - 1 - n) 0) t ∙ get_or-drop (length m - length xs) m _ 0 ∙ ap (λ i. get_or m i 0) (omega arith),
    )

module _ (f : Meaning) (l : Laws f) where
  abbrev F : Field (Fin f.q)
  F = lift f l

  abbrev s : ℕ → Fin f.q
  s = sym_of f l

  pub holding_start : (b r : ℕ) (m v : List ℕ) → ((i : ℕ) → get_or v i 0 ≡ 0) → Holding f b r (length m) m v
  holding_start b r m v e = record {
    within = λ i. rw (e i) (omega (arith, l.q_low));
    zeros = λ l j k. ap₂ (lift f l).◌⊕◌ (D.ev_zero (lift f l) r _ _ (λ i z. B.nil_to f l _ (e i)))
        (ap (λ d. (lift f l).◌⊗◌ (R.pow (lift f l) (B.root f l (b + j)) r) (R.ev (lift f l) d (λ k. poly f l m (length m + k)) (B.root f l (b + j)))) (omega arith)
        ∙ ap ((lift f l).◌⊗◌ _) (D.ev_o (lift f l) _ _) ∙ C.mul_o (lift f l) _) ∙ C.add_o (lift f l) _;
  }

  -- a symbol and the opposite of another, summed
  pub fed : (o c a b : ℕ) → (a < f.q → o ≡ f.opp a) → (b < f.q → o < f.q → c ≡ f.sum b o) → a < f.q → b < f.q → (c ≡ f.sum b (f.opp a)) × (c < f.q)
  fed o c a b eo ec a_in b_in =
      let o_in : o < f.q = rw (eo a_in) (l.opp_in _ a_in) in
      (ec b_in o_in ∙ ap (f.sum b) (eo a_in), rw (ec b_in o_in) (l.sum_in _ _ b_in o_in))

  -- what goes back into the register with the symbol x
  pub fed_back : (x o c t r : ℕ) (v : List ℕ) → t ≡ r → x < f.q → Within f.q v → (get_or v t 0 < f.q → o ≡ f.opp (get_or v t 0)) → (x < f.q → o < f.q → c ≡ f.sum x o)
      → (c ≡ f.sum x (f.opp (get_or v r 0))) × (c < f.q)
  fed_back x o c t r v et x_in v_in eo ec =
      let p = fed o c _ x eo ec (v_in t) x_in in
      (p.0 ∙ ap (λ n. f.sum x (f.opp (get_or v n 0))) et, p.1)

  holding_next : (b r i c x : ℕ) (g m old new : List ℕ) → Generates f b (suc r) g → Within f.q m → Holding f b (suc r) (suc i) m old → i < length m
      → x ≡ get_or m i 0 → c ≡ f.sum x (f.opp (get_or old r 0)) → Turned f c r g old new → Holding f b (suc r) i m new
  holding_next b r i c x g m old new gen m-in h hi ex ce t = record {
    within = T.turned_in f l c r g old new t c_in gen.within h.within;
    zeros = each;
  }
    where
      o_in : f.opp (get_or old r 0) < f.q
      o_in = l.opp_in _ (h.within r)

      x_in : x < f.q
      x_in = rw ex (m-in i)

      c_in : c < f.q
      c_in = rw ce (l.sum_in _ _ x_in o_in)

      each : (l : Laws f) (j : ℕ) → j < suc r → (lift f l).◌⊕◌ (R.ev (lift f l) (suc r) (poly f l new) (B.root f l (b + j)))
          ((lift f l).◌⊗◌ (R.pow (lift f l) (B.root f l (b + j)) (suc r)) (R.ev (lift f l) (length m - i) (λ k. poly f l m (i + k)) (B.root f l (b + j)))) ≡ (lift f l).𝟘
      each l j k =
          let F = lift f l in
          let z = B.root f l (b + j) in
          let d = length m - suc i in
          let e : length m - i ≡ suc d = omega arith in
          let tail : ℕ → Fin f.q = λ k. poly f l m (i + k) in
          let c_is : sym_of f l c ≡ F.◌⊕◌ (tail 0) (F.neg (poly f l old r)) =
          ap (sym_of f l) ce ∙ B.sum_of f l _ _ x_in o_in
          ∙ ap₂ F.◌⊕◌ (ap (sym_of f l) (ex ∙ ap (λ k. get_or m k 0) (sym (add-zero i)))) (B.opp_of f l _ (h.within r)) in
          ap (λ n. F.◌⊕◌ (R.ev F (suc r) (poly f l new) z) (F.◌⊗◌ (R.pow F z (suc r)) (R.ev F n tail z))) e
          ∙ D.takes_more F r d (poly f l g) (poly f l old) (poly f l new) tail z
          (subst (λ u. D.Turned F u (suc r) (poly f l g) (poly f l old) (poly f l new)) c_is (T.turned_poly f l c r g old new t c_in gen.within h.within))
          (ap (sym_of f l) gen.top ∙ B.one_of f l)
          (sym (B.value_of f l (suc (suc r)) g (b + j) gen.within) ∙ B.nil_to f l _ (gen.roots j k))
          (ap (λ u. F.◌⊕◌ (R.ev F (suc r) (poly f l old) z) (F.◌⊗◌ (R.pow F z (suc r)) u)) (D.ev_cong F d _ _ z (λ k y. ap (λ n. poly f l m n) (omega arith))) ∙ h.zeros l j k)

  pub holding_more : (b k r n i c x : ℕ) (g m old new : List ℕ) → k ≡ suc r → n ≡ suc i → n ≤ length m → Generates f b k g → Within f.q m → Holding f b k n m old
      → x ≡ get_or m i 0 → c ≡ f.sum x (f.opp (get_or old r 0)) → Turned f c r g old new → Holding f b k i m new
  holding_more b k r n i c x g m old new ek en low gen m-in h ex ce t =
      subst (λ k. Holding f b k i m new) (sym ek)
      (holding_next b r i c x g m old new (subst (λ k. Generates f b k g) ek gen) m-in (subst (λ k. Holding f b k (suc i) m old) ek (subst (λ n. Holding f b k n m old) en h)) (omega arith) ex ce t)

  -- at the end every check sum is 0
  pub holding_end : (b r : ℕ) (m v : List ℕ) → length v ≡ r → Within f.q m → Holding f b r 0 m v → (j : ℕ) → j < r → value f (length (v ++ m)) (v ++ m) (b + j) ≡ 0
  holding_end b r m v long m-in h j k =
      let w_in = append_in f.q v m h.within m-in in
      B.nil_of f l _ (B.value_in f l (length (v ++ m)) (v ++ m) (b + j) w_in)
      (B.value_of f l (length (v ++ m)) (v ++ m) (b + j) w_in ∙ ap (λ n. R.ev F n (poly f l (v ++ m)) (B.root f l (b + j))) (length-append v m ∙ omega arith)
      ∙ D.ev_split F r (length m - 0) (poly f l (v ++ m)) (B.root f l (b + j))
      ∙ ap₂ (λ t u. F.◌⊕◌ t (F.◌⊗◌ (R.pow F (B.root f l (b + j)) r) u))
      (D.ev_cong F r _ _ _ (λ i y. ap s (get_or_append_left v m 0 i (omega arith))))
      (D.ev_cong F (length m - 0) _ _ _ (λ i y. ap s (get_or-append_right v m r (r + i) 0 long (omega arith) ∙ ap (λ n. get_or m n 0) (omega arith))))
      ∙ h.zeros l j k)
