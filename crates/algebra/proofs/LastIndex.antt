-- The same things, from the last index: what loops meet.
use mathlib.Core.Path.{◌≡◌, refl, sym, ap, ap₂, ◌∙◌}
use mathlib.Core.List.{[], ◌∷◌}
use Prim.Native.Nat.{ℕ, ◌+◌, ◌*◌, ◌<◌, zero, suc}
use native.Mathlib.Omega.{arith}
use native.Mathlib.Nat.{zero-add, suc-add, mul-zero, mul-suc}
use Rattle.algebra.specs.Field.{Field}
use Rattle.algebra.proofs.Convolution as C
use Rattle.algebra.proofs.Sums as S
use Rattle.algebra.proofs.Roots as R
use Rattle.algebra.proofs.KeyEquation as Q
use Rattle.algebra.proofs.Values as W
use Rattle.algebra.proofs.Distance as D
use Rattle.algebra.proofs.RingSolver as V
use Rattle.algebra.proofs.RingSolver.{E, Eqn, ◌:+◌, ◌:−◌, ◌:*◌, ◌:=◌, nil, one, mns, v0, v1, v2, v3}

module _ {K : Type 0} (F : Field K) where
  open F use {𝟘, 𝟙, ◌⊕◌, ◌⊗◌, neg, inv}

  infixl 60 ◌⊕◌
  infixl 70 ◌⊗◌
  abbrev tl : (ℕ → K) → ℕ → K
  tl f i = f (suc i)

  pub wt_last : (n : ℕ) (d : ℕ → K) → D.wt F (suc n) d ≡ D.wt F n d + D.count F (F.eq? (d n) 𝟘)
  unfolding D.wt
  wt_last zero d = omega arith
  wt_last (suc n) d = let h = wt_last n (tl d) in omega arith

  lin_lin : (x y : K) (f : ℕ → K) (i : ℕ) → Q.lin F x (Q.lin F y f) i ≡ Q.lin F y (Q.lin F x f) i
  lin_lin x y f zero = V.solve3 F (λ x y a. (a :+ mns y :* nil) :+ mns x :* nil := (a :+ mns x :* nil) :+ mns y :* nil) refl x y (f 0)
  lin_lin x y f (suc zero) = V.solve4 F (λ x y a b. (b :+ mns y :* a) :+ mns x :* (a :+ mns y :* nil) := (b :+ mns x :* a) :+ mns y :* (a :+ mns x :* nil)) refl x y (f 0) (f 1)
  lin_lin x y f (suc (suc i)) =
      V.solve F (x ∷ y ∷ f i ∷ f (suc i) ∷ f (suc (suc i)) ∷ [])
      ((E.var 4 :+ mns v1 :* v3) :+ mns v0 :* (v3 :+ mns v1 :* v2) := (E.var 4 :+ mns v0 :* v3) :+ mns v1 :* (v3 :+ mns v0 :* v2)) refl

  pub loc_last : (n : ℕ) (X : ℕ → K) (i : ℕ) → Q.loc F (suc n) X i ≡ Q.lin F (X n) (Q.loc F n X) i
  unfolding Q.loc
  loc_last zero X i = refl
  loc_last (suc n) X i = Q.lin_cong F (X 0) _ _ (loc_last n (tl X)) i ∙ lin_lin (X 0) (X (suc n)) (Q.loc F n (tl X)) i

  pub loc_none : (X : ℕ → K) (i : ℕ) → Q.loc F 0 X i ≡ Q.unit F i
  unfolding Q.loc
  loc_none X i = refl

  pub prod_o : (X : ℕ → K) (z : K) → W.prod F 0 X z ≡ 𝟙
  unfolding W.prod
  prod_o X z = refl

  pub prod_last : (n : ℕ) (X : ℕ → K) (z : K) → W.prod F (suc n) X z ≡ W.prod F n X z ⊗ (𝟙 ⊕ neg (X n ⊗ z))
  unfolding W.prod
  prod_last zero X z = C.mul_comm F _ _
  prod_last (suc n) X z = ap (λ t. (𝟙 ⊕ neg (X 0 ⊗ z)) ⊗ t) (prod_last n (tl X) z) ∙ sym (C.mul_assoc F _ _ _)

  prod_cong : (n : ℕ) (X X' : ℕ → K) (z : K) → ((i : ℕ) → i < n → X i ≡ X' i) → W.prod F n X z ≡ W.prod F n X' z
  unfolding W.prod
  prod_cong zero X X' z e = refl
  prod_cong (suc n) X X' z e = ap₂ (λ x t. (𝟙 ⊕ neg (x ⊗ z)) ⊗ t) (e 0 (omega arith)) (prod_cong n (tl X) (tl X') z (λ i h. e (suc i) (omega arith)))

  -- the product over the other nodes, as one where the node is 0
  pub others_prod : (n k : ℕ) (X X' : ℕ → K) (z : K) → k < n → X' k ≡ 𝟘 → ((i : ℕ) → i < n → ¬ (i ≡ k) → X i ≡ X' i) → W.others F n k X z ≡ W.prod F n X' z
  unfolding W.others W.prod
  others_prod zero k X X' z h o e = absurd (omega arith)
  others_prod (suc n) zero X X' z h o e =
      prod_cong n (tl X) (tl X') z (λ i w. e (suc i) (omega arith) (omega arith))
      ∙ sym (ap (λ x. (𝟙 ⊕ neg (x ⊗ z)) ⊗ W.prod F n (tl X') z) o ∙ V.solve2 F (λ z p. (one :− nil :* z) :* p := p) refl z _)
  others_prod (suc n) (suc k) X X' z h o e =
      ap₂ (λ x t. (𝟙 ⊕ neg (x ⊗ z)) ⊗ t) (e 0 (omega arith) (omega arith)) (others_prod n k (tl X) (tl X') z (omega arith) o (λ i w ne. e (suc i) (omega arith) (omega arith)))

  pub pow_add : (x : K) (i j : ℕ) → R.pow F x (i + j) ≡ R.pow F x i ⊗ R.pow F x j
  pow_add x zero j = ap (R.pow F x) (zero-add j) ∙ sym (ap (λ t. t ⊗ R.pow F x j) (R.pow_o F x) ∙ C.mul_comm F _ _ ∙ C.mul_one F _)
  pow_add x (suc i) j =
      ap (R.pow F x) (suc-add i j) ∙ R.pow_suc F x (i + j) ∙ ap (λ t. x ⊗ t) (pow_add x i j)
      ∙ sym (ap (λ t. t ⊗ R.pow F x j) (R.pow_suc F x i) ∙ C.mul_assoc F _ _ _)

  pub pow_mul : (x : K) (i t : ℕ) → R.pow F x (i * t) ≡ R.pow F (R.pow F x i) t
  pow_mul x i zero = ap (R.pow F x) (mul-zero i) ∙ R.pow_o F x ∙ sym (R.pow_o F _)
  pow_mul x i (suc t) =
      ap (R.pow F x) (mul-suc i t) ∙ pow_add x (i * t) i ∙ ap (λ u. u ⊗ R.pow F x i) (pow_mul x i t) ∙ C.mul_comm F _ _ ∙ sym (R.pow_suc F (R.pow F x i) t)

  pub ev_sum : (n : ℕ) (f : ℕ → K) (z : K) → R.ev F n f z ≡ S.sum F n (λ i. f i ⊗ R.pow F z i)
  unfolding R.ev
  ev_sum zero f z = sym (S.sum_o F _)
  ev_sum (suc n) f z =
      ap₂ ◌⊕◌ (sym (C.mul_one F _) ∙ ap (λ t. f 0 ⊗ t) (sym (R.pow_o F z)))
      (ap (λ t. z ⊗ t) (ev_sum n (tl f) z) ∙ sym (S.sum_scale F n z (λ i. f (suc i) ⊗ R.pow F z i))
      ∙ S.sum_cong F n _ _ (λ i h. V.solve3 F (λ z a p. z :* (a :* p) := a :* (z :* p)) refl z (f (suc i)) (R.pow F z i) ∙ ap (λ t. f (suc i) ⊗ t) (sym (R.pow_suc F z i))))
      ∙ sym (S.sum_suc F n (λ i. f i ⊗ R.pow F z i))
