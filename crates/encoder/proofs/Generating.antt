-- The generator: it starts as 1, and each factor x - a^(b + k) adds a root and keeps the leading 1.
use Rattle.std.proofs.Common.{◌≡◌, ℕ, zero, suc, ◌+◌, ◌<◌, List, get_or, sym, ap, ◌∙◌, subst, ap₂, arith}
use Prim.Native.Nat.{Fin}
use native.Mathlib.Decide.{dec_lt}
use Rattle.field.specs.Meaning.{Meaning, Laws, pow}
use Rattle.field.specs.Symbols.{Within}
use Rattle.field.specs.Sums.{value}
use Rattle.field.specs.Lifted.{lift, poly, sym_of}
use Rattle.field.proofs.Powers as P
use Rattle.field.proofs.Lifting as B
use Rattle.algebra.specs.Field.{Field}
use Rattle.algebra.proofs.Convolution as C
use Rattle.algebra.proofs.Roots as R
use Rattle.algebra.proofs.Division as D
use Rattle.encoder.specs.Register.{Turned, Generates}
use Rattle.encoder.proofs.Turns as T

module _ (f : Meaning) (l : Laws f) where
  abbrev F : Field (Fin f.q)
  F = lift f l

  abbrev s : ℕ → Fin f.q
  s = sym_of f l

  pub generates_none : (b : ℕ) (g : List ℕ) → get_or g 0 0 ≡ 1 → ((i : ℕ) → 0 < i → get_or g i 0 ≡ 0) → Generates f b 0 g
  generates_none b g e z = record { within = inside; top = e; above = z; roots = λ j h. absurd (omega arith) }
    where
      inside : Within f.q g
      inside zero = subst (λ n. n < f.q) (sym e) (omega (arith, l.q_low))
      inside (suc i) = subst (λ n. n < f.q) (sym (z (suc i) (omega arith))) (omega (arith, l.q_low))

  pub generates_more : (b k c : ℕ) (old new : List ℕ) → Generates f b k old → c ≡ f.opp (pow f f.a (b + k)) → Turned f c (suc k) old old new → Generates f b (suc k) new
  generates_more b k c old new g ce t = record {
    within = inside;
    top = t.later k (omega arith) ∙ ap₂ (λ x y. f.sum x (f.prod c y)) g.top (g.above (suc k) (omega arith))
        ∙ ap (f.sum 1) (B.nil_of f l _ (l.prod_in _ _ c_in (omega (arith, l.q_low))) (B.prod_of f l c 0 c_in (omega (arith, l.q_low)) ∙ ap (F.◌⊗◌ (s c)) (B.zero_of f l) ∙ C.mul_o F (s c)))
        ∙ l.sum_zero 1 (omega (arith, l.q_low));
    above = λ i h. t.rest i h ∙ g.above i (omega arith);
    roots = each;
  }
    where
      p_in : pow f f.a (b + k) < f.q
      p_in = P.pow_in f l f.a (b + k) l.a_high

      c_in : c < f.q
      c_in = subst (λ n. n < f.q) (sym ce) (l.opp_in _ p_in)

      inside : Within f.q new
      inside = T.turned_in f l c (suc k) old old new t c_in g.within g.within

      c_is : s c ≡ F.neg (B.root f l (b + k))
      c_is = ap s ce ∙ B.opp_of f l _ p_in

      at : (j : ℕ) → R.ev F (suc (suc k)) (poly f l new) (B.root f l (b + j)) ≡ F.◌⊗◌ (F.◌⊕◌ (B.root f l (b + j)) (F.neg (B.root f l (b + k)))) (R.ev F (suc k) (poly f l old) (B.root f l (b + j)))
      at j = D.factor F (s c) (suc k) (poly f l old) (poly f l new) (B.root f l (b + j)) (T.turned_poly f l c (suc k) old old new t c_in g.within g.within) (B.nil_to f l _ (g.above (suc k) (omega arith)))
          ∙ ap (λ u. F.◌⊗◌ (F.◌⊕◌ (B.root f l (b + j)) u) (R.ev F (suc k) (poly f l old) (B.root f l (b + j)))) c_is

      each : (j : ℕ) → j < suc k → value f (suc (suc k)) new (b + j) ≡ 0
      each j h = B.nil_of f l _ (B.value_in f l (suc (suc k)) new (b + j) inside) (B.value_of f l (suc (suc k)) new (b + j) inside ∙ at j ∙ elim (dec_lt j k) [
        | yes lt ↦ ap (F.◌⊗◌ _) (sym (B.value_of f l (suc k) old (b + j) g.within) ∙ B.nil_to f l _ (g.roots j lt)) ∙ C.mul_o F _
        | no ge ↦ let e : j ≡ k = omega arith in ap (λ i. F.◌⊗◌ (F.◌⊕◌ (B.root f l (b + i)) (F.neg (B.root f l (b + k)))) (R.ev F (suc k) (poly f l old) (B.root f l (b + j)))) e
            ∙ ap (λ u. F.◌⊗◌ u (R.ev F (suc k) (poly f l old) (B.root f l (b + j)))) (F.add_neg _) ∙ C.o_mul F _
      ])
