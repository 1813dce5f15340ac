-- Errors at distinct places X with amounts Y: locator, evaluator, the key equation, and what the evaluator's value says.
use mathlib.Core.Path.{◌≡◌, refl, sym, ap, ap₂, ◌∙◌, fun_ext}
use mathlib.Core.List.{[], ◌∷◌}
use Prim.Native.Nat.{ℕ, ◌+◌, ◌<◌, ◌≤◌, zero, suc}
use native.Mathlib.Omega.{arith}
use Rattle.algebra.specs.Field.{Field}
use Rattle.algebra.proofs.Convolution as C
use Rattle.algebra.proofs.Sums as S
use Rattle.algebra.proofs.LeastPair as U
use Rattle.algebra.proofs.Roots as R
use Rattle.algebra.proofs.RingSolver as V
use Rattle.algebra.proofs.RingSolver.{E, Eqn, ◌:+◌, ◌:−◌, ◌:*◌, ◌:=◌, nil, one, mns, v0, v1, v2, v3}

module _ {K : Type 0} (F : Field K) where
  open F use {𝟘, 𝟙, ◌⊕◌, ◌⊗◌, neg, inv}

  infixl 60 ◌⊕◌
  infixl 70 ◌⊗◌
  abbrev tl : (ℕ → K) → ℕ → K
  tl f i = f (suc i)

  abbrev sh : (ℕ → K) → ℕ → K
  sh = U.sh F

  abbrev cv : ℕ → (ℕ → K) → (ℕ → K) → K
  cv = C.conv F

  abbrev pub unit : ℕ → K
  unit zero = 𝟙
  unit (suc i) = 𝟘

  -- (1 - x z) f
  abbrev pub lin : K → (ℕ → K) → ℕ → K
  lin x f = U.mix F (neg x) (sh f) f

  unfoldable pub loc : ℕ → (ℕ → K) → ℕ → K
  loc zero X = unit
  loc (suc e) X = lin (X 0) (loc e (tl X))

  abbrev pub synd : ℕ → (ℕ → K) → (ℕ → K) → ℕ → K
  synd e X Y j = S.sum F e (λ i. Y i ⊗ R.pow F (X i) j)

  unfoldable pub eva : ℕ → (ℕ → K) → (ℕ → K) → ℕ → K
  eva zero X Y j = 𝟘
  eva (suc e) X Y j = Y 0 ⊗ loc e (tl X) j ⊕ lin (X 0) (eva e (tl X) (tl Y)) j

  pub conv_lin : (k : ℕ) (x : K) (f g : ℕ → K) → cv k (lin x f) g ≡ lin x (λ i. cv i f g) k
  conv_lin k x f g = U.conv_mix F k (neg x) (sh f) f g ∙ ap (λ t. cv k f g ⊕ neg x ⊗ t) (U.conv_sh F k f g)

  pub lin_cong : (x : K) (f g : ℕ → K) → ((i : ℕ) → f i ≡ g i) → (k : ℕ) → lin x f k ≡ lin x g k
  lin_cong x f g e k = ap (λ t. lin x t k) (fun_ext e)

  lin_add : (x y : K) (f g : ℕ → K) (k : ℕ) → lin x (λ i. y ⊗ f i ⊕ g i) k ≡ y ⊗ lin x f k ⊕ lin x g k
  lin_add x y f g zero = V.solve4 F (λ x y f g. (y :* f :+ g) :+ mns x :* nil := y :* (f :+ mns x :* nil) :+ (g :+ mns x :* nil)) refl x y (f 0) (g 0)
  lin_add x y f g (suc k) =
      V.solve F (x ∷ y ∷ f (suc k) ∷ g (suc k) ∷ f k ∷ g k ∷ [])
      ((v1 :* v2 :+ v3) :+ mns v0 :* (v1 :* E.var 4 :+ E.var 5) := v1 :* (v2 :+ mns v0 :* E.var 4) :+ (v3 :+ mns v0 :* E.var 5)) refl

  geo : (x : K) (k : ℕ) → lin x (R.pow F x) k ≡ unit k
  geo x zero = ap (λ t. t ⊕ neg x ⊗ 𝟘) (R.pow_o F x) ∙ V.solve F (x ∷ []) (one :+ mns v0 :* nil := one) refl
  geo x (suc k) = ap (λ t. t ⊕ neg x ⊗ R.pow F x k) (R.pow_suc F x k) ∙ V.solve2 F (λ x p. x :* p :+ mns x :* p := nil) refl x (R.pow F x k)

  pub conv_unit : (k : ℕ) (g : ℕ → K) → cv k unit g ≡ g k
  conv_unit k g = C.conv_one F k 0 k unit g (omega arith) others ∙ C.mul_comm F _ _ ∙ C.mul_one F _
    where
      others : (i j : ℕ) → i + j ≡ k → ¬ (i ≡ 0) → unit i ⊗ g j ≡ 𝟘
      others zero j e ne = absurd (ne refl)
      others (suc i) j e ne = C.o_mul F _

  conv_right : (k : ℕ) (y : K) (L f g : ℕ → K) → cv k L (λ i. y ⊗ f i ⊕ g i) ≡ y ⊗ cv k L f ⊕ cv k L g
  conv_right k y L f g =
      C.conv_comm F k L _ ∙ C.conv_add_l F k (λ i. y ⊗ f i) g L
      ∙ ap₂ ◌⊕◌ (C.conv_scale_l F k y f L ∙ ap (λ t. y ⊗ t) (C.conv_comm F k f L)) (C.conv_comm F k g L)

  -- the key equation, of whole power series
  pub key : (e : ℕ) (X Y : ℕ → K) (k : ℕ) → cv k (loc e X) (synd e X Y) ≡ eva e X Y k
  unfolding loc eva
  key zero X Y k = C.conv_zero F k _ _ (λ i j h. ap (λ t. unit i ⊗ t) (S.sum_o F _) ∙ C.mul_o F _)
  key (suc e) X Y k =
      conv_lin k (X 0) (loc e (tl X)) (synd (suc e) X Y)
      ∙ lin_cong (X 0) _ (λ i. Y 0 ⊗ cv i (loc e (tl X)) (R.pow F (X 0)) ⊕ eva e (tl X) (tl Y) i)
      (λ i. ap (cv i (loc e (tl X))) (fun_ext (λ j. S.sum_suc F e (λ n. Y n ⊗ R.pow F (X n) j)))
      ∙ conv_right i (Y 0) (loc e (tl X)) (R.pow F (X 0)) (synd e (tl X) (tl Y))
      ∙ ap (λ t. Y 0 ⊗ cv i (loc e (tl X)) (R.pow F (X 0)) ⊕ t) (key e (tl X) (tl Y) i)) k
      ∙ lin_add (X 0) (Y 0) (λ i. cv i (loc e (tl X)) (R.pow F (X 0))) (eva e (tl X) (tl Y)) k
      ∙ ap (λ t. Y 0 ⊗ t ⊕ lin (X 0) (eva e (tl X) (tl Y)) k)
      (lin_cong (X 0) _ (λ i. cv i (R.pow F (X 0)) (loc e (tl X))) (λ i. C.conv_comm F i _ _) k
      ∙ sym (conv_lin k (X 0) (R.pow F (X 0)) (loc e (tl X)))
      ∙ ap (λ t. cv k t (loc e (tl X))) (fun_ext (geo (X 0)))
      ∙ conv_unit k (loc e (tl X)))

  pub lin_zero : (x : K) (f : ℕ → K) (n : ℕ) → ((i : ℕ) → n ≤ i → f i ≡ 𝟘) → (i : ℕ) → suc n ≤ i → lin x f i ≡ 𝟘
  lin_zero x f n z zero h = absurd (omega arith)
  lin_zero x f n z (suc i) h = U.nil_mix F _ _ (neg x) (z (suc i) (omega arith)) (z i (omega arith))

  pub loc_deg : (e : ℕ) (X : ℕ → K) (i : ℕ) → e < i → loc e X i ≡ 𝟘
  unfolding loc
  loc_deg zero X zero h = absurd (omega arith)
  loc_deg zero X (suc i) h = refl
  loc_deg (suc e) X i h = lin_zero (X 0) (loc e (tl X)) (suc e) (λ j w. loc_deg e (tl X) j w) i h

  pub eva_deg : (e : ℕ) (X Y : ℕ → K) (i : ℕ) → e ≤ i → eva e X Y i ≡ 𝟘
  unfolding eva
  eva_deg zero X Y i h = refl
  eva_deg (suc e) X Y i h =
      ap₂ ◌⊕◌ (ap (λ t. Y 0 ⊗ t) (loc_deg e (tl X) i (omega arith)) ∙ C.mul_o F _) (lin_zero (X 0) (eva e (tl X) (tl Y)) e (λ j w. eva_deg e (tl X) (tl Y) j w) i (omega arith)) ∙ C.add_o F 𝟘

  pub loc_one : (e : ℕ) (X : ℕ → K) → loc e X 0 ≡ 𝟙
  unfolding loc
  loc_one zero X = refl
  loc_one (suc e) X = ap (λ t. t ⊕ neg (X 0) ⊗ 𝟘) (loc_one e (tl X)) ∙ V.solve F (X 0 ∷ []) (one :+ mns v0 :* nil := one) refl

  pub loc_top : (e : ℕ) (X : ℕ → K) → ((i : ℕ) → i < e → ¬ (X i ≡ 𝟘)) → ¬ (loc e X e ≡ 𝟘)
  unfolding loc
  loc_top zero X ne h = F.one_ne h
  loc_top (suc e) X ne h =
      loc_top e (tl X) (λ i w. ne (suc i) (omega arith))
      (C.no_zero_div F (X 0) _ (ne 0 (omega arith))
      (V.solve2 F (λ x t. x :* t := mns (nil :+ mns x :* t)) refl _ _ ∙ ap neg (ap (λ t. t ⊕ neg (X 0) ⊗ loc e (tl X) e) (sym (loc_deg e (tl X) (suc e) (omega arith))) ∙ h) ∙ V.solve F [] (mns nil := nil) refl))
