-- What the least pair of the modified syndromes is, where 2 e + s ≤ k.
use mathlib.Core.Path.{◌≡◌, refl, sym, ap, ap₂, ◌∙◌, fun_ext, subst}
use mathlib.Core.Logic.{⊎_elim}
use mathlib.Core.List.{[], ◌∷◌}
use Prim.Native.Nat.{ℕ, ◌+◌, ◌<◌, ◌≤◌, suc}
use native.Mathlib.Omega.{arith}
use native.Mathlib.Decide.{dec_lt, dec_le, ℕ_discrete}
use Rattle.algebra.specs.Field.{Field}
use Rattle.algebra.specs.Lead.{Left, Right}
use Rattle.algebra.specs.Poly.{In}
use Rattle.algebra.proofs.Convolution as C
use Rattle.algebra.proofs.Minimality as M
use Rattle.algebra.proofs.Roots as R
use Rattle.algebra.proofs.KeyEquation as Q
use Rattle.algebra.proofs.Values as W
use Rattle.algebra.proofs.Distance as D
use Rattle.algebra.proofs.Errata as N
use Rattle.algebra.proofs.Errata.{Errata, Modified}
use Rattle.algebra.proofs.RingSolver as V
use Rattle.algebra.proofs.RingSolver.{E, Eqn, ◌:+◌, ◌:−◌, ◌:*◌, ◌:=◌, nil, one, mns, v0, v1, v2, v3}

module _ {K : Type 0} (F : Field K) where
  open F use {𝟘, 𝟙, ◌⊕◌, ◌⊗◌, neg, inv}

  infixl 60 ◌⊕◌
  infixl 70 ◌⊗◌
  abbrev cv : ℕ → (ℕ → K) → (ℕ → K) → K
  cv = C.conv F

  abbrev ev : ℕ → (ℕ → K) → K → K
  ev = R.ev F

  inv_inj : (x y : K) → ¬ (x ≡ 𝟘) → ¬ (y ≡ 𝟘) → inv x ≡ inv y → x ≡ y
  inv_inj x y hx hy h =
      sym (C.mul_one F x) ∙ ap (λ t. x ⊗ t) (sym (F.mul_inv y hy)) ∙ ap (λ t. x ⊗ (y ⊗ t)) (sym h)
      ∙ V.solve3 F (λ x y z. x :* (y :* z) := y :* (x :* z)) refl x y (inv x) ∙ ap (λ t. y ⊗ t) (F.mul_inv x hx) ∙ C.mul_one F y

  module _ (n k : ℕ) (X Xe Xm Y g : ℕ → K) (r : Errata F n X Xe Xm Y) (m : Modified F n k X Xm Y g) where
    abbrev e : ℕ
    e = D.wt F n Xe

    abbrev s : ℕ
    s = D.wt F n Xm

    abbrev Λ : ℕ → K
    Λ = Q.loc F n Xe

    abbrev Ω : ℕ → K
    Ω = Q.eva F n X Y

    pub total : D.wt F n X ≡ D.wt F n Xe + D.wt F n Xm
    total = N.wt_both F n X Xe Xm r.parts

    pub key_in : In F k g Ω Λ
    key_in j h =
        sym (C.conv_cong F j Λ Λ g (λ i. cv i (Q.loc F n Xm) (Q.synd F n X Y)) (λ i w. refl) (λ i w. m i (omega arith))
        ∙ sym (C.conv_assoc F j Λ (Q.loc F n Xm) (Q.synd F n X Y))
        ∙ ap (λ t. cv j t (Q.synd F n X Y)) (sym (fun_ext (N.loc_both F n X Xe Xm r.parts))) ∙ Q.key F n X Y j)

    Ω_deg : (i : ℕ) → e + s ≤ i → Ω i ≡ 𝟘
    Ω_deg i h = N.eva_deg F n X Y r.none i (let t = total in omega arith)

    pub key_right : Right F s 1 Ω Λ e
    key_right = record { top = N.loc_top F n Xe; above = N.loc_deg F n Xe; other = λ i h. Ω_deg i (omega arith) }

    -- the least pair does not lead on the left
    pub not_left : e + e + s ≤ k → (a b : ℕ → K) (p : ℕ) → In F k g a b → Left F s 1 a b p → p < e + s → ⊥
    not_left le a b p i l h = let c = M.clash F s 1 k g a b Ω Λ p e i key_in l key_right in omega arith

    module _ (le : e + e + s ≤ k) (a b : ℕ → K) (q : ℕ) (i : In F k g a b) (y : Right F s 1 a b q) (qe : q ≤ e) where
      same : (j : ℕ) → cv j a Λ ≡ cv j Ω b
      same j = elim (dec_lt j k) [
        | yes h ↦ M.cross F k g a b Ω Λ i key_in j h
        | no h ↦
            C.conv_zero F j a Λ (λ i n w. elim (dec_le (q + s) i) [ yes d ↦ M.prod_l F _ _ (y.other i (omega arith)) | no d ↦ M.prod_r F _ _ (N.loc_deg F _ Xe n (omega arith)) ])
            ∙ sym (C.conv_zero F j Ω b (λ i n w. elim (dec_le (e + s) i) [ yes d ↦ M.prod_l F _ _ (Ω_deg i d) | no d ↦ M.prod_r F _ _ (y.above n (omega arith)) ]))
      ]

      values : (z : K) → ev (q + s) a z ⊗ ev (suc e) Λ z ≡ ev (e + s) Ω z ⊗ ev (suc q) b z
      values z =
          sym (W.ev_conv F (q + s) (suc e) (suc (e + q + s)) a Λ z (omega arith) (λ i h. y.other i (omega arith)) (λ i h. N.loc_deg F n Xe i h))
          ∙ ap (λ t. ev (suc (e + q + s)) t z) (fun_ext same)
          ∙ W.ev_conv F (e + s) (suc q) (suc (e + q + s)) Ω b z (omega arith) Ω_deg (λ i h. y.above i h)

      -- an error is a located node
      wrong : (j : ℕ) → j < n → ¬ (Xe j ≡ 𝟘) → X j ≡ Xe j
      wrong j h ne = ⊎_elim (λ u. absurd (ne u.0)) (λ u. u.1) (r.parts j h)

      Λ_val : (z : K) → ev (suc e) Λ z ≡ W.prod F n Xe z
      Λ_val z = elim (dec_le e n) [
        | yes h ↦ sym (W.ev_more F (suc e) (suc n) Λ z (omega arith) (λ i w. N.loc_deg F n Xe i w)) ∙ W.loc_val F n Xe z
        | no h ↦ W.ev_more F (suc n) (suc e) Λ z (omega arith) (λ i w. Q.loc_deg F n Xe i w) ∙ W.loc_val F n Xe z
      ]

      Ω_val : (z : K) → ev (e + s) Ω z ≡ ev n Ω z
      Ω_val z = elim (dec_le (e + s) n) [
        | yes h ↦ sym (W.ev_more F (e + s) n Ω z h Ω_deg)
        | no h ↦ W.ev_more F n (e + s) Ω z (omega arith) (Q.eva_deg F n X Y)
      ]

      forney : (j : ℕ) (z : K) → j < n → X j ⊗ z ≡ 𝟙 → ev (e + s) Ω z ≡ Y j ⊗ W.others F n j X z
      forney j z h u = Ω_val z ∙ W.forney F n j X Y z h u

      not_o : (j : ℕ) (z : K) → X j ⊗ z ≡ 𝟙 → ¬ (X j ≡ 𝟘)
      not_o j z u w = F.one_ne (sym u ∙ ap (λ t. t ⊗ z) w ∙ C.o_mul F z)

      pub others_ne : (j : ℕ) (z : K) → j < n → X j ⊗ z ≡ 𝟙 → ¬ (W.others F n j X z ≡ 𝟘)
      others_ne j z h u = N.others_ne F n j X z h u (λ l w ne t. r.apart j l h w (omega arith) (not_o j z u) (sym t))

      unit_of : (j : ℕ) → ¬ (Xe j ≡ 𝟘) → Xe j ⊗ inv (Xe j) ≡ 𝟙
      unit_of j ne = F.mul_inv (Xe j) ne

      loc_root : (j : ℕ) → j < n → ¬ (Xe j ≡ 𝟘) → ev (suc e) Λ (inv (Xe j)) ≡ 𝟘
      loc_root j h ne = Λ_val (inv (Xe j)) ∙ W.prod_zero F n j Xe (inv (Xe j)) h (unit_of j ne)

      root : (j : ℕ) → j < n → ¬ (Xe j ≡ 𝟘) → ev (suc q) b (inv (Xe j)) ≡ 𝟘
      root j h ne =
          let u : X j ⊗ inv (Xe j) ≡ 𝟙 = ap (λ t. t ⊗ inv (Xe j)) (wrong j h ne) ∙ unit_of j ne in
          C.no_zero_div F (ev (e + s) Ω (inv (Xe j))) _
          (λ w. W.mul_ne F (Y j) _ (r.amount j h ne) (others_ne j (inv (Xe j)) h u) (sym (forney j (inv (Xe j)) h u) ∙ w))
          (sym (values (inv (Xe j))) ∙ ap (λ t. ev (q + s) a (inv (Xe j)) ⊗ t) (loc_root j h ne) ∙ C.mul_o F _)

      inv_apart : (i j : ℕ) → i < n → j < n → ¬ (i ≡ j) → ¬ (Xe i ≡ 𝟘) → ¬ (Xe j ≡ 𝟘) → ¬ (inv (Xe i) ≡ inv (Xe j))
      inv_apart i j hi hj ne u v w =
          r.apart i j hi hj ne (λ t. u (sym (wrong i hi u) ∙ t)) (wrong i hi u ∙ inv_inj _ _ u v w ∙ sym (wrong j hj v))

      pub size : q ≡ e
      size = elim (dec_lt q e) [
        | no h ↦ omega arith
        | yes h ↦ absurd (y.top
            (N.roots F n Xe (λ i. inv (Xe i)) b inv_apart (λ i w u. W.ev_more F (suc q) e b (inv (Xe i)) h (λ j v. y.above j v) ∙ root i w u) q h))
      ]

      pub factor : K
      factor = Λ e ⊗ inv (b e)

      diff : ℕ → K
      diff i = 𝟙 ⊗ Λ i ⊕ neg factor ⊗ b i

      top_ne : ¬ (b e ≡ 𝟘)
      top_ne w = y.top (ap b size ∙ w)

      diff_above : (i : ℕ) → e ≤ i → diff i ≡ 𝟘
      unfolding diff factor
      diff_above i h = elim (ℕ_discrete i e) [
        | yes w ↦ ap diff w ∙ V.solve3 F (λ x y z. one :* x :+ mns (x :* y) :* z := x :* (one :− z :* y)) refl (Λ e) (inv (b e)) (b e)
            ∙ ap (λ t. Λ e ⊗ (𝟙 ⊕ neg t)) (F.mul_inv (b e) top_ne) ∙ V.solve F (Λ e ∷ []) (v0 :* (one :− one) := nil) refl
        | no w ↦ ap₂ (λ s t. 𝟙 ⊗ s ⊕ neg factor ⊗ t) (N.loc_deg F n Xe i (omega arith)) (y.above i (let z = size in omega arith)) ∙ V.solve F (factor ∷ []) (one :* nil :+ mns v0 :* nil := nil) refl
      ]

      at_root : (i : ℕ) → i < n → ¬ (Xe i ≡ 𝟘) → ev (suc e) diff (inv (Xe i)) ≡ 𝟘
      unfolding diff
      at_root i h ne =
          W.ev_lin F (suc e) 𝟙 (neg factor) Λ b (inv (Xe i))
          ∙ ap₂ (λ s t. 𝟙 ⊗ s ⊕ neg factor ⊗ t) (loc_root i h ne) (subst (λ (n : ℕ). ev (suc n) b (inv (Xe i)) ≡ 𝟘) size (root i h ne))
          ∙ V.solve F (factor ∷ []) (one :* nil :+ mns v0 :* nil := nil) refl

      diff_zero : (i : ℕ) → diff i ≡ 𝟘
      diff_zero i = elim (dec_lt i e) [
        | no h ↦ diff_above i (omega arith)
        | yes h ↦ N.roots F n Xe (λ i. inv (Xe i)) diff inv_apart
            (λ i h ne. sym (W.ev_more F e (suc e) diff (inv (Xe i)) (omega arith) diff_above) ∙ at_root i h ne) i h
      ]

      pub locator : (i : ℕ) → Λ i ≡ factor ⊗ b i
      unfolding diff
      locator i = V.solve3 F (λ x c b. x := c :* b :+ (one :* x :+ mns c :* b)) refl (Λ i) factor (b i) ∙ ap (λ t. factor ⊗ b i ⊕ t) (diff_zero i) ∙ C.add_o F _

      pub evaluator : (j : ℕ) → j < k → Ω j ≡ factor ⊗ a j
      evaluator j h = key_in j h ∙ ap (λ t. cv j t g) (fun_ext locator) ∙ C.conv_scale_l F j factor b g ∙ ap (λ t. factor ⊗ t) (sym (i j h))

      -- in the decoder's words
      one_is : factor ⊗ b 0 ≡ 𝟙
      one_is = sym (locator 0) ∙ Q.loc_one F n Xe

      pub low : ¬ (b 0 ≡ 𝟘)
      low w = F.one_ne (sym one_is ∙ ap (λ t. factor ⊗ t) w ∙ C.mul_o F _)

      ev_scale : (N : ℕ) (c : K) (f : ℕ → K) (z : K) → ev N (λ i. c ⊗ f i) z ≡ c ⊗ ev N f z
      ev_scale N c f z =
          W.ev_cong F N _ (λ i. c ⊗ f i ⊕ 𝟘 ⊗ f i) z (λ i. V.solve2 F (λ c x. c :* x := c :* x :+ nil :* x) refl c (f i))
          ∙ W.ev_lin F N c 𝟘 f f z ∙ V.solve2 F (λ c x. c :* x :+ nil :* x := c :* x) refl c (ev N f z)

      b_val : (z : K) → W.prod F n Xe z ≡ factor ⊗ ev (suc e) b z
      b_val z = sym (Λ_val z) ∙ W.ev_cong F (suc e) Λ _ z locator ∙ ev_scale (suc e) factor b z

      -- the roots of b are the errors
      pub root_at : (j : ℕ) (z : K) → j < n → Xe j ⊗ z ≡ 𝟙 → ev (suc e) b z ≡ 𝟘
      root_at j z h u =
          C.no_zero_div F factor _ (λ w. F.one_ne (sym one_is ∙ ap (λ t. t ⊗ b 0) w ∙ C.o_mul F _)) (sym (b_val z) ∙ W.prod_zero F n j Xe z h u)

      pub no_root : (x z : K) → x ⊗ z ≡ 𝟙 → ((j : ℕ) → j < n → ¬ (Xe j ≡ x)) → ¬ (ev (suc e) b z ≡ 𝟘)
      no_root x z u d w = W.prod_ne F n Xe x z u d (b_val z ∙ ap (λ t. factor ⊗ t) w ∙ C.mul_o F _)

      -- the amount at a located node
      pub amount_at : (j : ℕ) (z : K) → j < n → X j ⊗ z ≡ 𝟙 → ev (e + s) a z ≡ b 0 ⊗ Y j ⊗ W.others F n j X z
      amount_at j z h u =
          sym (C.mul_one F _) ∙ C.mul_comm F _ _ ∙ ap (λ t. t ⊗ ev (e + s) a z) (sym one_is ∙ C.mul_comm F _ _) ∙ C.mul_assoc F _ _ _
          ∙ ap (λ t. b 0 ⊗ t) (sym (ev_scale (e + s) factor a z) ∙ W.ev_cong F (e + s) _ Ω z near ∙ forney j z h u) ∙ sym (C.mul_assoc F _ _ _)
        where
          near : (i : ℕ) → factor ⊗ a i ≡ Ω i
          near i = elim (dec_lt i k) [ yes h ↦ sym (evaluator i h) | no h ↦ ap (λ t. factor ⊗ t) (y.other i (let z = size in omega arith)) ∙ C.mul_o F _ ∙ sym (Ω_deg i (omega arith)) ]
