use mathlib.Core.Path.{◌≡◌, refl, sym, ap, ap₂, ◌∙◌}
use mathlib.Core.List.{[], ◌∷◌}
use Prim.Native.Nat.{ℕ, ◌<◌, zero, suc}
use native.Mathlib.Omega.{arith}
use Rattle.algebra.specs.Field.{Field}
use Rattle.algebra.proofs.Convolution as C
use Rattle.algebra.proofs.Sums as S
use Rattle.algebra.proofs.RingSolver as V
use Rattle.algebra.proofs.RingSolver.{E, Eqn, ◌:+◌, ◌:−◌, ◌:*◌, ◌:=◌, nil, one, mns, v0, v1, v2, v3}

module _ {K : Type 0} (F : Field K) where
  open F use {𝟘, 𝟙, ◌⊕◌, ◌⊗◌, neg, inv}

  infixl 60 ◌⊕◌
  infixl 70 ◌⊗◌
  abbrev tl : (ℕ → K) → ℕ → K
  tl f i = f (suc i)

  -- the value at x of the polynomial with the coefficients f 0 .. f (n - 1)
  unfoldable pub ev : ℕ → (ℕ → K) → K → K
  ev zero f x = 𝟘
  ev (suc n) f x = f 0 ⊕ x ⊗ ev n (tl f) x

  unfoldable pub syn : ℕ → (ℕ → K) → K → ℕ → K
  syn zero f x i = 𝟘
  syn (suc n) f x zero = ev n (tl f) x
  syn (suc n) f x (suc i) = syn n (tl f) x i

  step : (c x y A B : K) → c ⊕ y ⊗ (A ⊕ (y ⊕ neg x) ⊗ B) ≡ (c ⊕ x ⊗ A) ⊕ (y ⊕ neg x) ⊗ (A ⊕ y ⊗ B)
  step c x y A B = V.solve F (c ∷ x ∷ y ∷ A ∷ B ∷ [])
      (v0 :+ v2 :* (v3 :+ (v2 :− v1) :* E.var 4) := (v0 :+ v1 :* v3) :+ (v2 :− v1) :* (v3 :+ v2 :* E.var 4)) refl

  pub divides : (n : ℕ) (f : ℕ → K) (x y : K) → ev (suc n) f y ≡ ev (suc n) f x ⊕ (y ⊕ neg x) ⊗ ev n (syn (suc n) f x) y
  unfolding ev syn
  divides zero f x y = V.solve F (f 0 ∷ x ∷ y ∷ []) (v0 :+ v2 :* nil := (v0 :+ v1 :* nil) :+ (v2 :− v1) :* nil) refl
  divides (suc n) f x y = ap (λ t. f 0 ⊕ y ⊗ t) (divides n (tl f) x y) ∙ step _ _ _ _ _

  pub back : (n : ℕ) (f : ℕ → K) (x : K) → ev (suc n) f x ≡ 𝟘 → ((i : ℕ) → i < n → syn (suc n) f x i ≡ 𝟘) → (i : ℕ) → i < suc n → f i ≡ 𝟘
  unfolding ev syn
  back zero f x r z zero h = sym (C.add_o F _) ∙ ap (λ t. f 0 ⊕ t) (sym (C.mul_o F x)) ∙ r
  back zero f x r z (suc i) h = absurd (omega arith)
  back (suc n) f x r z zero h = sym (C.add_o F _) ∙ ap (λ t. f 0 ⊕ t) (sym (C.mul_o F x)) ∙ ap (λ t. f 0 ⊕ x ⊗ t) (sym (z 0 (omega arith))) ∙ r
  back (suc n) f x r z (suc i) h = back n (tl f) x (z 0 (omega arith)) (λ j w. z (suc j) (omega arith)) i (omega arith)

  abbrev pub Distinct : ℕ → (ℕ → K) → Type 0
  Distinct d X = (i j : ℕ) → i < d → j < d → ¬ (i ≡ j) → ¬ (X i ≡ X j)

  pub diff_zero : (x y : K) → y ⊕ neg x ≡ 𝟘 → y ≡ x
  diff_zero x y e = V.solve2 F (λ x y. y := x :+ (y :− x)) refl x y ∙ ap (λ t. x ⊕ t) e ∙ C.add_o F x

  pub roots : (d : ℕ) (f X : ℕ → K) → Distinct d X → ((i : ℕ) → i < d → ev d f (X i) ≡ 𝟘) → (i : ℕ) → i < d → f i ≡ 𝟘
  roots zero f X ne r i h = absurd (omega arith)
  roots (suc d) f X ne r i h = back d f (X 0) (r 0 (omega arith)) (roots d (syn (suc d) f (X 0)) (λ i. X (suc i)) (λ i j a b c. ne (suc i) (suc j) (omega arith) (omega arith) (omega arith)) rest) i h
    where
      rest : (i : ℕ) → i < d → ev d (syn (suc d) f (X 0)) (X (suc i)) ≡ 𝟘
      rest i h =
          let e = divides d f (X 0) (X (suc i)) in
          C.no_zero_div F (X (suc i) ⊕ neg (X 0)) _ (λ z. ne (suc i) 0 (omega arith) (omega arith) (omega arith) (diff_zero _ _ z))
          (sym (C.o_add F _) ∙ ap (λ t. t ⊕ (X (suc i) ⊕ neg (X 0)) ⊗ ev d (syn (suc d) f (X 0)) (X (suc i))) (sym (r 0 (omega arith))) ∙ sym e ∙ r (suc i) (omega arith))

  unfoldable pub pow : K → ℕ → K
  pow x zero = 𝟙
  pow x (suc n) = x ⊗ pow x n

  pub pow_o : (x : K) → pow x 0 ≡ 𝟙
  unfolding pow
  pow_o x = refl

  pub pow_suc : (x : K) (n : ℕ) → pow x (suc n) ≡ x ⊗ pow x n
  unfolding pow
  pow_suc x n = refl

  pub join : (a x p s t : K) → a ⊗ (x ⊗ p) ⊕ t ≡ 𝟘 → a ⊗ p ⊕ s ≡ 𝟘 → t ⊕ neg x ⊗ s ≡ 𝟘
  join a x p s t e₁ e₀ =
      V.solve F (a ∷ x ∷ p ∷ s ∷ t ∷ []) (E.var 4 :+ mns v1 :* v3 := (v0 :* (v1 :* v2) :+ E.var 4) :+ mns v1 :* (v0 :* v2 :+ v3)) refl
      ∙ ap₂ (λ u v. u ⊕ neg x ⊗ v) e₁ e₀ ∙ V.solve F (x ∷ []) (nil :+ mns v0 :* nil := nil) refl

  pub vander : (k : ℕ) (d X : ℕ → K) → Distinct k X → ((j : ℕ) → j < k → S.sum F k (λ i. d i ⊗ pow (X i) j) ≡ 𝟘) → (i : ℕ) → i < k → d i ≡ 𝟘
  vander zero d X ne e i h = absurd (omega arith)
  vander (suc k) d X ne e i h = all (vander k w (λ i. X (suc i)) (λ i j a b c. ne (suc i) (suc j) (omega arith) (omega arith) (omega arith)) eqs) i h
    where
      w : ℕ → K
      w i = d (suc i) ⊗ (X (suc i) ⊕ neg (X 0))

      part : ℕ → K
      part j = S.sum F k (λ i. d (suc i) ⊗ pow (X (suc i)) j)

      spread : (i j : ℕ) → w i ⊗ pow (X (suc i)) j ≡ d (suc i) ⊗ pow (X (suc i)) (suc j) ⊕ neg (X 0) ⊗ (d (suc i) ⊗ pow (X (suc i)) j)
      spread i j = rw (pow_suc (X (suc i)) j) (V.solve4 F (λ a x z p. a :* (x :− z) :* p := a :* (x :* p) :+ mns z :* (a :* p)) refl _ _ _ _)

      eqs : (j : ℕ) → j < k → S.sum F k (λ i. w i ⊗ pow (X (suc i)) j) ≡ 𝟘
      eqs j h =
          S.sum_cong F k _ (λ i. d (suc i) ⊗ pow (X (suc i)) (suc j) ⊕ neg (X 0) ⊗ (d (suc i) ⊗ pow (X (suc i)) j)) (λ i w. spread i j)
          ∙ S.sum_add F k (λ i. d (suc i) ⊗ pow (X (suc i)) (suc j)) (λ i. neg (X 0) ⊗ (d (suc i) ⊗ pow (X (suc i)) j))
          ∙ ap (λ t. part (suc j) ⊕ t) (S.sum_scale F k (neg (X 0)) (λ i. d (suc i) ⊗ pow (X (suc i)) j))
          ∙ join (d 0) (X 0) (pow (X 0) j) (part j) (part (suc j)) (ap (λ t. d 0 ⊗ t ⊕ part (suc j)) (sym (pow_suc _ _)) ∙ sym (S.sum_suc F k _) ∙ e (suc j) (omega arith)) (sym (S.sum_suc F k _) ∙ e j (omega arith))

      later : ((i : ℕ) → i < k → w i ≡ 𝟘) → (i : ℕ) → i < k → d (suc i) ≡ 𝟘
      later z i h = C.no_zero_div F _ _ (λ t. ne (suc i) 0 (omega arith) (omega arith) (omega arith) (diff_zero _ _ t)) (C.mul_comm F _ _ ∙ z i h)

      all : ((i : ℕ) → i < k → w i ≡ 𝟘) → (i : ℕ) → i < suc k → d i ≡ 𝟘
      all z zero h =
          sym (C.mul_one F _) ∙ ap (λ t. d 0 ⊗ t) (sym (pow_o _)) ∙ sym (C.add_o F _)
          ∙ ap (λ t. d 0 ⊗ pow (X 0) 0 ⊕ t) (sym (S.sum_zero F k (λ i. d (suc i) ⊗ pow (X (suc i)) 0) (λ i h. ap (λ t. t ⊗ pow (X (suc i)) 0) (later z i h) ∙ C.o_mul F _)))
          ∙ sym (S.sum_suc F k _) ∙ e 0 (omega arith)
      all z (suc i) h = later z i (omega arith)
