-- The step of the solver keeps the invariant; the smaller pair is unique up to a factor.
use mathlib.Core.Path.{◌≡◌, refl, sym, ap, ap₂, ◌∙◌, subst}
use mathlib.Core.List.{[], ◌∷◌}
use Prim.Native.Nat.{ℕ, ◌+◌, ◌<◌, ◌≤◌, zero, suc}
use native.Mathlib.Omega.{arith}
use native.Mathlib.Decide.{dec_lt, dec_le, ℕ_discrete}
use Rattle.algebra.specs.Field.{Field}
use Rattle.algebra.specs.Lead.{Left, Right}
use Rattle.algebra.proofs.Convolution as C
use Rattle.algebra.proofs.Minimality as M
use Rattle.algebra.specs.Poly.{In}
use Rattle.algebra.proofs.RingSolver as V
use Rattle.algebra.proofs.RingSolver.{E, Eqn, ◌:+◌, ◌:−◌, ◌:*◌, ◌:=◌, nil, one, mns, v0, v1, v2, v3}

module _ {K : Type 0} (F : Field K) where
  open F use {𝟘, 𝟙, ◌⊕◌, ◌⊗◌, neg, inv}

  infixl 60 ◌⊕◌
  infixl 70 ◌⊗◌
  abbrev cv : ℕ → (ℕ → K) → (ℕ → K) → K
  cv = C.conv F

  -- x f
  abbrev pub sh : (ℕ → K) → ℕ → K
  sh f zero = 𝟘
  sh f (suc i) = f i

  -- f + c h
  abbrev pub mix : K → (ℕ → K) → (ℕ → K) → ℕ → K
  mix c h f i = f i ⊕ c ⊗ h i

  pub conv_sh : (k : ℕ) (f g : ℕ → K) → cv k (sh f) g ≡ sh (λ i. cv i f g) k
  conv_sh zero f g = C.conv_o F (sh f) g ∙ C.o_mul F _
  conv_sh (suc k) f g = C.conv_suc F k (sh f) g ∙ ap (λ t. t ⊕ cv k f g) (C.o_mul F _) ∙ C.o_add F _

  pub conv_mix : (k : ℕ) (c : K) (h f g : ℕ → K) → cv k (mix c h f) g ≡ cv k f g ⊕ c ⊗ cv k h g
  conv_mix k c h f g = C.conv_add_l F k f (λ i. c ⊗ h i) g ∙ ap (λ t. cv k f g ⊕ t) (C.conv_scale_l F k c h g)

  pub in_sh : (k : ℕ) (g a b : ℕ → K) → In F k g a b → In F (suc k) g (sh a) (sh b)
  in_sh k g a b s zero h = sym (conv_sh 0 b g)
  in_sh k g a b s (suc j) h = s j (omega arith) ∙ sym (conv_sh (suc j) b g)

  pub in_mix : (k : ℕ) (g a b u v : ℕ → K) (c : K) → In F k g a b → In F k g u v → In F k g (mix c u a) (mix c v b)
  in_mix k g a b u v c s t j h = ap₂ (λ x y. x ⊕ c ⊗ y) (s j h) (t j h) ∙ sym (conv_mix j c v b g)

  in_more : (k : ℕ) (g a b : ℕ → K) → In F k g a b → a k ≡ cv k b g → In F (suc k) g a b
  in_more k g a b s e j h = elim (ℕ_discrete j k) [ yes w ↦ subst (λ (i : ℕ). a i ≡ cv i b g) (sym w) e | no w ↦ s j (omega arith) ]

  -- the discrepancy at k
  abbrev pub disc : ℕ → (ℕ → K) → (ℕ → K) → (ℕ → K) → K
  disc k g a b = a k ⊕ neg (cv k b g)

  -- a pair mended by another
  pub in_mend : (k : ℕ) (g a b u v : ℕ → K) → In F k g a b → In F k g u v → ¬ (disc k g u v ≡ 𝟘) →
      (c : K) → c ≡ neg (disc k g a b ⊗ inv (disc k g u v)) → In F (suc k) g (mix c u a) (mix c v b)
  in_mend k g a b u v s t ne c e = in_more k g (mix c u a) (mix c v b) (in_mix k g a b u v c s t) (done ∙ sym (conv_mix k c v b g))
    where
      A : K
      A = cv k b g

      B : K
      B = cv k v g

      cd : c ⊗ disc k g u v ≡ neg (disc k g a b)
      cd = ap (λ z. z ⊗ disc k g u v) e ∙ V.solve3 F (λ x y z. mns (x :* y) :* z := mns (x :* (z :* y))) refl _ _ _ ∙ ap (λ z. neg (disc k g a b ⊗ z)) (F.mul_inv _ ne) ∙ ap neg (C.mul_one F _)

      done : a k ⊕ c ⊗ u k ≡ A ⊕ c ⊗ B
      done = V.solve F (a k ∷ c ∷ u k ∷ A ∷ B ∷ []) (v0 :+ v1 :* v2 := (v0 :− v3) :+ v1 :* (v2 :− E.var 4) :+ (v3 :+ v1 :* E.var 4)) refl
          ∙ ap (λ z. disc k g a b ⊕ z ⊕ (A ⊕ c ⊗ B)) cd
          ∙ V.solve2 F (λ x y. x :+ mns x :+ y := y) refl (disc k g a b) (A ⊕ c ⊗ B)

  pub nil_mix : (x y c : K) → x ≡ 𝟘 → y ≡ 𝟘 → x ⊕ c ⊗ y ≡ 𝟘
  nil_mix x y c e₁ e₂ = ap₂ (λ s t. s ⊕ c ⊗ t) e₁ e₂ ∙ V.solve F (c ∷ []) (nil :+ v0 :* nil := nil) refl

  pub keep_mix : (x y c : K) → y ≡ 𝟘 → x ⊕ c ⊗ y ≡ x
  keep_mix x y c e = ap (λ t. x ⊕ c ⊗ t) e ∙ V.solve2 F (λ x c. x :+ c :* nil := x) refl x c

  pub left_sh : (l m : ℕ) (a b : ℕ → K) (p : ℕ) → Left F l m a b p → Left F l m (sh a) (sh b) (suc p)
  left_sh l m a b p x = record { top = x.top; above = up; other = ot }
    where
      up : (i : ℕ) → suc p < i → sh a i ≡ 𝟘
      up zero h = refl
      up (suc i) h = x.above i (omega arith)

      ot : (j : ℕ) → suc p + m ≤ j + l → sh b j ≡ 𝟘
      ot zero h = refl
      ot (suc j) h = x.other j (omega arith)

  pub right_sh : (l m : ℕ) (a b : ℕ → K) (p : ℕ) → Right F l m a b p → Right F l m (sh a) (sh b) (suc p)
  right_sh l m a b p x = record { top = x.top; above = up; other = ot }
    where
      up : (i : ℕ) → suc p < i → sh b i ≡ 𝟘
      up zero h = refl
      up (suc i) h = x.above i (omega arith)

      ot : (j : ℕ) → suc p + l < j + m → sh a j ≡ 𝟘
      ot zero h = refl
      ot (suc j) h = x.other j (omega arith)

  -- left of p is smaller than right of q
  pub right_mix : (l m : ℕ) (a b u v : ℕ → K) (p q : ℕ) (c : K) → p + m ≤ q + l → Left F l m a b p → Right F l m u v q → Right F l m (mix c a u) (mix c b v) q
  right_mix l m a b u v p q c h x y = record {
    top = λ e. y.top (sym (keep_mix _ _ c (x.other q h)) ∙ e);
    above = λ j w. nil_mix _ _ c (y.above j w) (x.other j (omega arith));
    other = λ i w. nil_mix _ _ c (y.other i w) (x.above i (omega arith));
  }

  pub left_mix : (l m : ℕ) (a b u v : ℕ → K) (p q : ℕ) (c : K) → q + l < p + m → Left F l m a b p → Right F l m u v q → Left F l m (mix c u a) (mix c v b) p
  left_mix l m a b u v p q c h x y = record {
    top = λ e. x.top (sym (keep_mix _ _ c (y.other p h)) ∙ e);
    above = λ j w. nil_mix _ _ c (x.above j w) (y.other j (omega arith));
    other = λ i w. nil_mix _ _ c (x.other i w) (y.above i (omega arith));
  }

  -- a pair of M_k below both leading terms is zero
  pub sink : (l m k : ℕ) (g a b u v s t : ℕ → K) (p q : ℕ) → p + q ≡ k → In F k g a b → Left F l m a b p → In F k g u v → Right F l m u v q → In F k g s t →
      (N : ℕ) → N ≤ p + m → N ≤ q + l → ((i : ℕ) → N ≤ i + m → s i ≡ 𝟘) → ((j : ℕ) → N ≤ j + l → t j ≡ 𝟘) → ((i : ℕ) → s i ≡ 𝟘) × ((j : ℕ) → t j ≡ 𝟘)
  sink l m k g a b u v s t p q e ia xa iu xu is zero _ _ zs zt = ((λ i. zs i (omega arith)), (λ j. zt j (omega arith)))
  sink l m k g a b u v s t p q e ia xa iu xu is (suc N) hp hq zs zt =
      sink l m k g a b u v s t p q e ia xa iu xu is N (omega arith) (omega arith) zs' zt'
    where
      zt' : (j : ℕ) → N ≤ j + l → t j ≡ 𝟘
      zt' j h = elim (F.eq? (t j) 𝟘) [
        | yes w ↦ w
        | no w ↦ elim (dec_le (suc N) (j + l)) [
          | yes d ↦ zt j d
          | no d ↦
              let r : Right F l m s t j = record { top = w; above = λ i z. zt i (omega arith); other = λ i z. zs i (omega arith) } in
              let f = M.no_right_below F l m k g a b p q e ia xa s t j is r in absurd (omega arith)
        ]
      ]

      zs' : (i : ℕ) → N ≤ i + m → s i ≡ 𝟘
      zs' i h = elim (F.eq? (s i) 𝟘) [
        | yes w ↦ w
        | no w ↦ elim (dec_le (suc N) (i + m)) [
          | yes d ↦ zs i d
          | no d ↦
              let r : Left F l m s t i = record { top = w; above = λ j z. zs j (omega arith); other = λ j z. zt' j (omega arith) } in
              let f = M.no_left_below F l m k g u v p q e iu xu s t i is r in absurd (omega arith)
        ]
      ]

  -- what the solver holds after k turns
  pub record Basis (l m k : ℕ) (g a b u v : ℕ → K) (p q : ℕ) : Type 0 where
    pub size : p + q ≡ k
    pub inl : In F k g a b
    pub inr : In F k g u v
    pub left : Left F l m a b p
    pub right : Right F l m u v q

  in_zero : (k : ℕ) (g a b : ℕ → K) → In F k g a b → disc k g a b ≡ 𝟘 → In F (suc k) g a b
  in_zero k g a b s e = in_more k g a b s (V.solve2 F (λ x y. x := y :+ (x :− y)) refl (a k) (cv k b g) ∙ ap (λ t. cv k b g ⊕ t) e ∙ C.add_o F _)

  pub turn_left_fits : (l m k : ℕ) (g a b u v : ℕ → K) (p q : ℕ) → Basis l m k g a b u v p q → disc k g a b ≡ 𝟘 → Basis l m (suc k) g a b (sh u) (sh v) p (suc q)
  turn_left_fits l m k g a b u v p q w e = record {
    size = omega (arith, w.size);
    inl = in_zero k g a b w.inl e;
    inr = in_sh k g u v w.inr;
    left = w.left;
    right = right_sh l m u v q w.right;
  }

  pub turn_mend_right : (l m k : ℕ) (g a b u v : ℕ → K) (p q : ℕ) → Basis l m k g a b u v p q → ¬ (disc k g a b ≡ 𝟘) → p + m ≤ q + l →
      let c = neg (disc k g u v ⊗ inv (disc k g a b)) in Basis l m (suc k) g (sh a) (sh b) (mix c a u) (mix c b v) (suc p) q
  turn_mend_right l m k g a b u v p q w ne h = record {
    size = omega (arith, w.size);
    inl = in_sh k g a b w.inl;
    inr = in_mend k g u v a b w.inr w.inl ne _ refl;
    left = left_sh l m a b p w.left;
    right = right_mix l m a b u v p q _ h w.left w.right;
  }

  pub turn_mend_left : (l m k : ℕ) (g a b u v : ℕ → K) (p q : ℕ) → Basis l m k g a b u v p q → ¬ (disc k g u v ≡ 𝟘) → q + l < p + m →
      let c = neg (disc k g a b ⊗ inv (disc k g u v)) in Basis l m (suc k) g (mix c u a) (mix c v b) (sh u) (sh v) p (suc q)
  turn_mend_left l m k g a b u v p q w ne h = record {
    size = omega (arith, w.size);
    inl = in_mend k g a b u v w.inl w.inr ne _ refl;
    inr = in_sh k g u v w.inr;
    left = left_mix l m a b u v p q _ h w.left w.right;
    right = right_sh l m u v q w.right;
  }

  pub turn_right_fits : (l m k : ℕ) (g a b u v : ℕ → K) (p q : ℕ) → Basis l m k g a b u v p q → disc k g u v ≡ 𝟘 → Basis l m (suc k) g (sh a) (sh b) u v (suc p) q
  turn_right_fits l m k g a b u v p q w e = record {
    size = omega (arith, w.size);
    inl = in_sh k g a b w.inl;
    inr = in_zero k g u v w.inr e;
    left = left_sh l m a b p w.left;
    right = w.right;
  }

  abbrev pub one_at : ℕ → K
  one_at zero = 𝟙
  one_at (suc i) = 𝟘

  pub start : (l m : ℕ) (g : ℕ → K) → Basis l m 0 g one_at (λ i. 𝟘) (λ i. 𝟘) one_at 0 0
  start l m g = record {
    size = refl;
    inl = λ j h. absurd (omega arith);
    inr = λ j h. absurd (omega arith);
    left = record { top = F.one_ne; above = up; other = λ j h. refl };
    right = record { top = F.one_ne; above = up; other = λ j h. refl };
  }
    where
      up : (i : ℕ) → 0 < i → one_at i ≡ 𝟘
      up zero h = absurd (omega arith)
      up (suc i) h = refl

  -- the smaller one is unique up to a factor: here the right one
  pub unique_right : (l m k : ℕ) (g a b u v s t : ℕ → K) (p q : ℕ) → Basis l m k g a b u v p q → q + l < p + m → In F k g s t →
      ((i : ℕ) → q + l < i + m → s i ≡ 𝟘) → ((j : ℕ) → q < j → t j ≡ 𝟘) → (c : K) × ((i : ℕ) → s i ≡ c ⊗ u i) × ((j : ℕ) → t j ≡ c ⊗ v j)
  unique_right l m k g a b u v s t p q w h is zs zt = (c, (λ i. back _ _ (both.0 i)), (λ j. back _ _ (both.1 j)))
    where
      c : K
      c = t q ⊗ inv (v q)

      back : (x y : K) → x ⊕ neg c ⊗ y ≡ 𝟘 → x ≡ c ⊗ y
      back x y e = V.solve3 F (λ x y c. x := c :* y :+ (x :+ mns c :* y)) refl x y c ∙ ap (λ z. c ⊗ y ⊕ z) e ∙ C.add_o F _

      S : ℕ → K
      S = mix (neg c) u s

      T : ℕ → K
      T = mix (neg c) v t

      inST : In F k g S T
      inST = in_mix k g s t u v (neg c) is w.inr

      tq : T q ≡ 𝟘
      tq = V.solve3 F (λ t i v. t :+ mns (t :* i) :* v := t :* (one :− v :* i)) refl (t q) (inv (v q)) (v q) ∙ ap (λ z. t q ⊗ (𝟙 ⊕ neg z)) (F.mul_inv (v q) w.right.top) ∙ V.solve F (t q ∷ []) (v0 :* (one :− one) := nil) refl

      zT : (j : ℕ) → q + l ≤ j + l → T j ≡ 𝟘
      zT j d = elim (ℕ_discrete j q) [ yes z ↦ ap T z ∙ tq | no z ↦ nil_mix _ _ (neg c) (zt j (omega arith)) (w.right.above j (omega arith)) ]

      zS' : (i : ℕ) → q + l < i + m → S i ≡ 𝟘
      zS' i d = nil_mix _ _ (neg c) (zs i d) (w.right.other i d)

      zS : (i : ℕ) → q + l ≤ i + m → S i ≡ 𝟘
      zS i d = elim (F.eq? (S i) 𝟘) [
        | yes z ↦ z
        | no z ↦ elim (dec_lt (q + l) (i + m)) [
          | yes x ↦ zS' i x
          | no x ↦
              let r : Left F l m S T i = record { top = z; above = λ j y. zS' j (omega arith); other = λ j y. zT j (omega arith) } in
              let f = M.no_left_below F l m k g u v p q w.size w.inr w.right S T i inST r in absurd (omega arith)
        ]
      ]

      both : ((i : ℕ) → S i ≡ 𝟘) × ((j : ℕ) → T j ≡ 𝟘)
      both = sink l m k g a b u v S T p q w.size w.inl w.left w.inr w.right inST (q + l) (omega arith) (omega arith) zS zT
