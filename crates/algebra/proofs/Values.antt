-- Values: of a product, of the locator, of the evaluator.
use mathlib.Core.Path.{◌≡◌, refl, sym, ap, ap₂, ◌∙◌, fun_ext}
use mathlib.Core.List.{[], ◌∷◌}
use Prim.Native.Nat.{ℕ, ◌+◌, ◌<◌, ◌≤◌, zero, suc}
use native.Mathlib.Omega.{arith}
use Rattle.algebra.specs.Field.{Field}
use Rattle.algebra.proofs.Convolution as C
use Rattle.algebra.proofs.LeastPair as U
use Rattle.algebra.proofs.Roots as R
use Rattle.algebra.proofs.KeyEquation as Q
use Rattle.algebra.proofs.RingSolver as V
use Rattle.algebra.proofs.RingSolver.{E, Eqn, ◌:+◌, ◌:−◌, ◌:*◌, ◌:=◌, nil, one, mns, v0, v1, v2, v3}

module _ {K : Type 0} (F : Field K) where
  open F use {𝟘, 𝟙, ◌⊕◌, ◌⊗◌, neg, inv}

  infixl 60 ◌⊕◌
  infixl 70 ◌⊗◌
  abbrev tl : (ℕ → K) → ℕ → K
  tl f i = f (suc i)

  abbrev cv : ℕ → (ℕ → K) → (ℕ → K) → K
  cv = C.conv F

  abbrev ev : ℕ → (ℕ → K) → K → K
  ev = R.ev F

  abbrev pub Short : ℕ → (ℕ → K) → Type 0
  Short n f = (i : ℕ) → n ≤ i → f i ≡ 𝟘

  pub ev_suc : (n : ℕ) (f : ℕ → K) (z : K) → ev (suc n) f z ≡ f 0 ⊕ z ⊗ ev n (tl f) z
  unfolding R.ev
  ev_suc n f z = refl

  pub eva_suc : (e : ℕ) (X Y : ℕ → K) (j : ℕ) → Q.eva F (suc e) X Y j ≡ Y 0 ⊗ Q.loc F e (tl X) j ⊕ Q.lin F (X 0) (Q.eva F e (tl X) (tl Y)) j
  unfolding Q.eva
  eva_suc e X Y j = refl

  pub ev_zero : (n : ℕ) (f : ℕ → K) (z : K) → ((i : ℕ) → f i ≡ 𝟘) → ev n f z ≡ 𝟘
  unfolding R.ev
  ev_zero zero f z e = refl
  ev_zero (suc n) f z e = ap₂ (λ s t. s ⊕ z ⊗ t) (e 0) (ev_zero n (tl f) z (λ i. e (suc i))) ∙ V.solve F (z ∷ []) (nil :+ v0 :* nil := nil) refl

  pub ev_more : (n N : ℕ) (f : ℕ → K) (z : K) → n ≤ N → Short n f → ev N f z ≡ ev n f z
  unfolding R.ev
  ev_more zero N f z h s = ev_zero N f z (λ i. s i (omega arith))
  ev_more (suc n) zero f z h s = absurd (omega arith)
  ev_more (suc n) (suc N) f z h s = ap (λ t. f 0 ⊕ z ⊗ t) (ev_more n N (tl f) z (omega arith) (λ i w. s (suc i) (omega arith)))

  pub ev_lin : (n : ℕ) (c d : K) (f g : ℕ → K) (z : K) → ev n (λ i. c ⊗ f i ⊕ d ⊗ g i) z ≡ c ⊗ ev n f z ⊕ d ⊗ ev n g z
  unfolding R.ev
  ev_lin zero c d f g z = V.solve2 F (λ c d. nil := c :* nil :+ d :* nil) refl c d
  ev_lin (suc n) c d f g z =
      ap (λ t. c ⊗ f 0 ⊕ d ⊗ g 0 ⊕ z ⊗ t) (ev_lin n c d (tl f) (tl g) z)
      ∙ V.solve F (c ∷ d ∷ z ∷ f 0 ∷ g 0 ∷ ev n (tl f) z ∷ ev n (tl g) z ∷ [])
      (v0 :* v3 :+ v1 :* E.var 4 :+ v2 :* (v0 :* E.var 5 :+ v1 :* E.var 6) := v0 :* (v3 :+ v2 :* E.var 5) :+ v1 :* (E.var 4 :+ v2 :* E.var 6)) refl

  pub ev_cong : (n : ℕ) (f g : ℕ → K) (z : K) → ((i : ℕ) → f i ≡ g i) → ev n f z ≡ ev n g z
  ev_cong n f g z e = ap (λ t. ev n t z) (fun_ext e)

  pub ev_conv : (n m N : ℕ) (f g : ℕ → K) (z : K) → n + m ≤ N → Short n f → Short m g → ev N (λ i. cv i f g) z ≡ ev n f z ⊗ ev m g z
  unfolding R.ev
  ev_conv zero m N f g z h sf sg = ev_zero N _ z (λ k. C.conv_zero F k f g (λ i j w. ap (λ t. t ⊗ g j) (sf i (omega arith)) ∙ C.o_mul F _)) ∙ sym (C.o_mul F _)
  ev_conv (suc n) m zero f g z h sf sg = absurd (omega arith)
  ev_conv (suc n) m (suc N) f g z h sf sg =
      ap₂ (λ s t. s ⊕ z ⊗ t) (C.conv_o F f g)
      (ev_cong N _ (λ i. f 0 ⊗ g (suc i) ⊕ 𝟙 ⊗ cv i (tl f) g) z (λ i. C.conv_suc F i f g ∙ ap (λ t. f 0 ⊗ g (suc i) ⊕ t) (sym (C.mul_comm F _ _ ∙ C.mul_one F _)))
      ∙ ev_lin N (f 0) 𝟙 (tl g) (λ i. cv i (tl f) g) z
      ∙ ap (λ t. f 0 ⊗ ev N (tl g) z ⊕ 𝟙 ⊗ t) (ev_conv n m N (tl f) g z (omega arith) (λ i w. sf (suc i) (omega arith)) sg))
      ∙ V.solve F (f 0 ∷ g 0 ∷ z ∷ ev N (tl g) z ∷ ev n (tl f) z ∷ ev m g z ∷ [])
      (v0 :* v1 :+ v2 :* (v0 :* v3 :+ one :* (E.var 4 :* E.var 5)) := v0 :* (v1 :+ v2 :* v3) :+ v2 :* (E.var 4 :* E.var 5)) refl
      ∙ ap (λ t. f 0 ⊗ t ⊕ z ⊗ (ev n (tl f) z ⊗ ev m g z)) (ev_more m (suc N) g z (omega arith) sg)
      ∙ V.solve4 F (λ a b c d. a :* b :+ c :* (d :* b) := (a :+ c :* d) :* b) refl _ _ _ _

  -- the value of (1 - x X) f
  pub ev_fac : (n : ℕ) (x : K) (f : ℕ → K) (z : K) → Short n f → ev (suc n) (Q.lin F x f) z ≡ (𝟙 ⊕ neg (x ⊗ z)) ⊗ ev n f z
  ev_fac n x f z s =
      ev_cong (suc n) _ (λ i. 𝟙 ⊗ f i ⊕ neg x ⊗ U.sh F f i) z (λ i. ap (λ t. t ⊕ neg x ⊗ U.sh F f i) (sym (C.mul_comm F _ _ ∙ C.mul_one F _)))
      ∙ ev_lin (suc n) 𝟙 (neg x) f (U.sh F f) z
      ∙ ap₂ (λ s t. 𝟙 ⊗ s ⊕ neg x ⊗ t) (ev_more n (suc n) f z (omega arith) s) (ev_suc n (U.sh F f) z)
      ∙ V.solve3 F (λ x z t. one :* t :+ mns x :* (nil :+ z :* t) := (one :− x :* z) :* t) refl x z (ev n f z)

  -- the product of 1 - X i z
  unfoldable pub prod : ℕ → (ℕ → K) → K → K
  prod zero X z = 𝟙
  prod (suc e) X z = (𝟙 ⊕ neg (X 0 ⊗ z)) ⊗ prod e (tl X) z

  -- the same, but for the factor at i
  unfoldable pub others : ℕ → ℕ → (ℕ → K) → K → K
  others zero i X z = 𝟙
  others (suc e) zero X z = prod e (tl X) z
  others (suc e) (suc i) X z = (𝟙 ⊕ neg (X 0 ⊗ z)) ⊗ others e i (tl X) z

  pub loc_val : (e : ℕ) (X : ℕ → K) (z : K) → ev (suc e) (Q.loc F e X) z ≡ prod e X z
  unfolding Q.loc prod
  loc_val zero X z = unfold R.ev in V.solve F (z ∷ []) (one :+ v0 :* nil := one) refl
  loc_val (suc e) X z = ev_fac (suc e) (X 0) (Q.loc F e (tl X)) z (λ i h. Q.loc_deg F e (tl X) i h) ∙ ap (λ t. (𝟙 ⊕ neg (X 0 ⊗ z)) ⊗ t) (loc_val e (tl X) z)

  pub prod_zero : (e i : ℕ) (X : ℕ → K) (z : K) → i < e → X i ⊗ z ≡ 𝟙 → prod e X z ≡ 𝟘
  unfolding prod
  prod_zero zero i X z h r = absurd (omega arith)
  prod_zero (suc e) zero X z h r = ap (λ t. (𝟙 ⊕ neg t) ⊗ prod e (tl X) z) r ∙ V.solve F (prod e (tl X) z ∷ []) ((one :− one) :* v0 := nil) refl
  prod_zero (suc e) (suc i) X z h r = ap (λ t. (𝟙 ⊕ neg (X 0 ⊗ z)) ⊗ t) (prod_zero e i (tl X) z (omega arith) r) ∙ C.mul_o F _

  eva_step : (e : ℕ) (X Y : ℕ → K) (z : K) → ev (suc e) (Q.eva F (suc e) X Y) z ≡ Y 0 ⊗ prod e (tl X) z ⊕ (𝟙 ⊕ neg (X 0 ⊗ z)) ⊗ ev e (Q.eva F e (tl X) (tl Y)) z
  eva_step e X Y z =
      ev_cong (suc e) _ (λ i. Y 0 ⊗ Q.loc F e (tl X) i ⊕ 𝟙 ⊗ Q.lin F (X 0) (Q.eva F e (tl X) (tl Y)) i) z (λ i. eva_suc e X Y i ∙ ap (λ t. Y 0 ⊗ Q.loc F e (tl X) i ⊕ t) (sym (C.mul_comm F _ _ ∙ C.mul_one F _)))
      ∙ ev_lin (suc e) (Y 0) 𝟙 (Q.loc F e (tl X)) (Q.lin F (X 0) (Q.eva F e (tl X) (tl Y))) z
      ∙ ap₂ (λ s t. Y 0 ⊗ s ⊕ 𝟙 ⊗ t) (loc_val e (tl X) z) (ev_fac e (X 0) (Q.eva F e (tl X) (tl Y)) z (Q.eva_deg F e (tl X) (tl Y)))
      ∙ V.solve3 F (λ a b c. a :* b :+ one :* c := a :* b :+ c) refl _ _ _

  -- Forney: the evaluator at the inverse of X i
  pub forney : (e i : ℕ) (X Y : ℕ → K) (z : K) → i < e → X i ⊗ z ≡ 𝟙 → ev e (Q.eva F e X Y) z ≡ Y i ⊗ others e i X z
  forney zero i X Y z h r = absurd (omega arith)
  forney (suc e) zero X Y z h r =
      eva_step e X Y z ∙ ap (λ t. Y 0 ⊗ prod e (tl X) z ⊕ (𝟙 ⊕ neg t) ⊗ ev e (Q.eva F e (tl X) (tl Y)) z) r
      ∙ V.solve3 F (λ a b c. a :* b :+ (one :− one) :* c := a :* b) refl _ _ _ ∙ unfold others in refl
  forney (suc e) (suc i) X Y z h r =
      eva_step e X Y z ∙ ap₂ (λ s t. Y 0 ⊗ s ⊕ (𝟙 ⊕ neg (X 0 ⊗ z)) ⊗ t) (prod_zero e i (tl X) z (omega arith) r) (forney e i (tl X) (tl Y) z (omega arith) r)
      ∙ V.solve4 F (λ a b c d. a :* nil :+ b :* (c :* d) := c :* (b :* d)) refl _ _ _ _ ∙ unfold others in refl

  pub mul_ne : (x y : K) → ¬ (x ≡ 𝟘) → ¬ (y ≡ 𝟘) → ¬ (x ⊗ y ≡ 𝟘)
  mul_ne x y a b e = b (C.no_zero_div F x y a e)

  pub fac_ne : (x z w : K) → x ⊗ z ≡ 𝟙 → ¬ (w ≡ x) → ¬ (𝟙 ⊕ neg (w ⊗ z) ≡ 𝟘)
  fac_ne x z w r ne h = ne (cancel (sym (R.diff_zero F (w ⊗ z) 𝟙 h) ∙ sym r))
    where
      cancel : w ⊗ z ≡ x ⊗ z → w ≡ x
      cancel q = sym (one_of w) ∙ ap (λ t. t ⊗ x) q ∙ one_of x
        where
          one_of : (t : K) → t ⊗ z ⊗ x ≡ t
          one_of t = V.solve3 F (λ t z x. t :* z :* x := t :* (x :* z)) refl t z x ∙ ap (λ s. t ⊗ s) r ∙ C.mul_one F t

  pub prod_ne : (e : ℕ) (X : ℕ → K) (x z : K) → x ⊗ z ≡ 𝟙 → ((j : ℕ) → j < e → ¬ (X j ≡ x)) → ¬ (prod e X z ≡ 𝟘)
  unfolding prod
  prod_ne zero X x z r d = F.one_ne
  prod_ne (suc e) X x z r d = mul_ne _ _ (fac_ne x z (X 0) r (d 0 (omega arith))) (prod_ne e (tl X) x z r (λ j h. d (suc j) (omega arith)))

  pub others_ne : (e i : ℕ) (X : ℕ → K) (z : K) → i < e → X i ⊗ z ≡ 𝟙 → R.Distinct F e X → ¬ (others e i X z ≡ 𝟘)
  unfolding others
  others_ne zero i X z h r d = absurd (omega arith)
  others_ne (suc e) zero X z h r d = prod_ne e (tl X) (X 0) z r (λ j w. d (suc j) 0 (omega arith) (omega arith) (omega arith))
  others_ne (suc e) (suc i) X z h r d =
      mul_ne _ _ (fac_ne (X (suc i)) z (X 0) r (d 0 (suc i) (omega arith) (omega arith) (omega arith)))
      (others_ne e i (tl X) z (omega arith) r (λ a b u v w. d (suc a) (suc b) (omega arith) (omega arith) (omega arith)))
