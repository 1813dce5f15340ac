-- Errata over all positions: a node that is 0 stands for a position where nothing is wrong.
use mathlib.Core.Path.{◌≡◌, refl, sym, ap, ap₂, ◌∙◌, fun_ext}
use mathlib.Core.Logic.{◌⊎◌, ⊎_elim}
use mathlib.Core.List.{[]}
use Prim.Native.Nat.{ℕ, ◌+◌, ◌<◌, ◌≤◌, zero, suc}
use native.Mathlib.Omega.{arith}
use Rattle.algebra.specs.Field.{Field}
use Rattle.algebra.proofs.Convolution as C
use Rattle.algebra.proofs.LeastPair as U
use Rattle.algebra.proofs.Roots as R
use Rattle.algebra.proofs.KeyEquation as Q
use Rattle.algebra.proofs.Values as W
use Rattle.algebra.proofs.Distance as D
use Rattle.algebra.proofs.RingSolver as V
use Rattle.algebra.proofs.RingSolver.{E, Eqn, ◌:+◌, ◌:−◌, ◌:*◌, ◌:=◌, nil, one, mns, v0, v1, v2, v3}

module _ {K : Type 0} (F : Field K) where
  open F use {𝟘, 𝟙, ◌⊕◌, ◌⊗◌, neg, inv}

  infixl 60 ◌⊕◌
  infixl 70 ◌⊗◌
  abbrev cv : ℕ → (ℕ → K) → (ℕ → K) → K
  cv = C.conv F

  abbrev ev : ℕ → (ℕ → K) → K → K
  ev = R.ev F

  abbrev tl : (ℕ → K) → ℕ → K
  tl f i = f (suc i)

  abbrev wt : ℕ → (ℕ → K) → ℕ
  wt = D.wt F

  abbrev cnt : {x : K} → Dec (x ≡ 𝟘) → ℕ
  cnt = D.count F

  pub lin_o : (x : K) (f : ℕ → K) (i : ℕ) → x ≡ 𝟘 → Q.lin F x f i ≡ f i
  lin_o x f i z = ap (λ t. f i ⊕ neg t ⊗ U.sh F f i) z ∙ V.solve2 F (λ a b. a :+ mns nil :* b := a) refl (f i) (U.sh F f i)

  loc_suc : (n : ℕ) (X : ℕ → K) (i : ℕ) → Q.loc F (suc n) X i ≡ Q.lin F (X 0) (Q.loc F n (tl X)) i
  unfolding Q.loc
  loc_suc n X i = refl

  wt_suc : (n : ℕ) (X : ℕ → K) → wt (suc n) X ≡ cnt (F.eq? (X 0) 𝟘) + wt n (tl X)
  unfolding D.wt
  wt_suc n X = refl

  -- the degree of the locator
  pub loc_deg : (n : ℕ) (X : ℕ → K) (i : ℕ) → wt n X < i → Q.loc F n X i ≡ 𝟘
  unfolding D.wt
  loc_deg zero X i h = Q.loc_deg F 0 X i (omega arith)
  loc_deg (suc n) X i h = go (F.eq? (X 0) 𝟘) (loc_deg n (tl X)) h
    where
      go : (t : Dec (X 0 ≡ 𝟘)) → ((j : ℕ) → wt n (tl X) < j → Q.loc F n (tl X) j ≡ 𝟘) → cnt t + wt n (tl X) < i → Q.loc F (suc n) X i ≡ 𝟘
      go (yes z) ih w = loc_suc n X i ∙ lin_o (X 0) _ i z ∙ ih i (omega arith)
      go (no z) ih w = loc_suc n X i ∙ Q.lin_zero F (X 0) (Q.loc F n (tl X)) (suc (wt n (tl X))) (λ j u. ih j u) i (omega arith)

  pub loc_top : (n : ℕ) (X : ℕ → K) → ¬ (Q.loc F n X (wt n X) ≡ 𝟘)
  unfolding D.wt
  loc_top zero X = Q.loc_top F 0 X (λ i h. absurd (omega arith))
  loc_top (suc n) X = go (F.eq? (X 0) 𝟘) (loc_top n (tl X))
    where
      go : (t : Dec (X 0 ≡ 𝟘)) → ¬ (Q.loc F n (tl X) (wt n (tl X)) ≡ 𝟘) → ¬ (Q.loc F (suc n) X (cnt t + wt n (tl X)) ≡ 𝟘)
      go (yes z) ih w =
          let e : wt n (tl X) ≡ 0 + wt n (tl X) = omega arith in
          ih (sym (lin_o (X 0) (Q.loc F n (tl X)) (wt n (tl X)) z) ∙ sym (loc_suc n X (wt n (tl X))) ∙ ap (Q.loc F (suc n) X) e ∙ w)
      go (no z) ih w =
          let e : wt n (tl X) < suc (wt n (tl X)) = omega arith in
          let e' : suc (wt n (tl X)) ≡ 1 + wt n (tl X) = omega arith in
          ih (C.no_zero_div F (X 0) _ z
          (V.solve2 F (λ x t. x :* t := mns (nil :+ mns x :* t)) refl (X 0) (Q.loc F n (tl X) (wt n (tl X)))
          ∙ ap neg (ap (λ t. t ⊕ neg (X 0) ⊗ Q.loc F n (tl X) (wt n (tl X))) (sym (loc_deg n (tl X) (suc (wt n (tl X))) e))
          ∙ sym (loc_suc n X (suc (wt n (tl X)))) ∙ ap (Q.loc F (suc n) X) e' ∙ w)
          ∙ V.solve F [] (mns nil := nil) refl))

  pub eva_deg : (n : ℕ) (X Y : ℕ → K) → ((i : ℕ) → i < n → X i ≡ 𝟘 → Y i ≡ 𝟘) → (i : ℕ) → wt n X ≤ i → Q.eva F n X Y i ≡ 𝟘
  unfolding D.wt
  eva_deg zero X Y o i h = Q.eva_deg F 0 X Y i (omega arith)
  eva_deg (suc n) X Y o i h = go (F.eq? (X 0) 𝟘) (eva_deg n (tl X) (tl Y) (λ j w. o (suc j) (omega arith))) h
    where
      go : (t : Dec (X 0 ≡ 𝟘)) → ((j : ℕ) → wt n (tl X) ≤ j → Q.eva F n (tl X) (tl Y) j ≡ 𝟘) → cnt t + wt n (tl X) ≤ i → Q.eva F (suc n) X Y i ≡ 𝟘
      go (yes z) ih w =
          W.eva_suc F n X Y i ∙ ap₂ ◌⊕◌ (ap (λ t. t ⊗ Q.loc F n (tl X) i) (o 0 (omega arith) z) ∙ C.o_mul F _) (lin_o (X 0) _ i z ∙ ih i (omega arith)) ∙ C.add_o F 𝟘
      go (no z) ih w =
          W.eva_suc F n X Y i ∙ ap₂ ◌⊕◌ (ap (λ t. Y 0 ⊗ t) (loc_deg n (tl X) i (omega arith)) ∙ C.mul_o F _)
          (Q.lin_zero F (X 0) (Q.eva F n (tl X) (tl Y)) (wt n (tl X)) (λ j u. ih j u) i (omega arith)) ∙ C.add_o F 𝟘

  -- errors and erasures: no node is in both
  abbrev pub Parts : ℕ → (ℕ → K) → (ℕ → K) → (ℕ → K) → Type 0
  Parts n X Xe Xm = (i : ℕ) → i < n → ((Xe i ≡ 𝟘) × (X i ≡ Xm i)) ⊎ ((Xm i ≡ 𝟘) × (X i ≡ Xe i))

  conv_lin_r : (k : ℕ) (x : K) (f g : ℕ → K) → cv k f (Q.lin F x g) ≡ Q.lin F x (λ i. cv i f g) k
  conv_lin_r k x f g = C.conv_comm F k f _ ∙ Q.conv_lin F k x g f ∙ Q.lin_cong F x _ _ (λ i. C.conv_comm F i g f) k

  pub loc_both : (n : ℕ) (X Xe Xm : ℕ → K) → Parts n X Xe Xm → (i : ℕ) → Q.loc F n X i ≡ cv i (Q.loc F n Xe) (Q.loc F n Xm)
  unfolding Q.loc
  loc_both zero X Xe Xm p i = sym (Q.conv_unit F i _)
  loc_both (suc n) X Xe Xm p i = ⊎_elim (one (loc_both n (tl X) (tl Xe) (tl Xm) (λ j h. p (suc j) (omega arith)))) (two (loc_both n (tl X) (tl Xe) (tl Xm) (λ j h. p (suc j) (omega arith)))) (p 0 (omega arith))
    where
      one : ((j : ℕ) → Q.loc F n (tl X) j ≡ cv j (Q.loc F n (tl Xe)) (Q.loc F n (tl Xm))) → (Xe 0 ≡ 𝟘) × (X 0 ≡ Xm 0) → Q.lin F (X 0) (Q.loc F n (tl X)) i ≡ cv i (Q.lin F (Xe 0) (Q.loc F n (tl Xe))) (Q.lin F (Xm 0) (Q.loc F n (tl Xm)))
      one ih h =
          ap (λ t. Q.lin F t (Q.loc F n (tl X)) i) h.1 ∙ Q.lin_cong F (Xm 0) _ _ ih i ∙ sym (conv_lin_r i (Xm 0) (Q.loc F n (tl Xe)) (Q.loc F n (tl Xm)))
          ∙ ap (λ t. cv i t (Q.lin F (Xm 0) (Q.loc F n (tl Xm)))) (sym (fun_ext (λ j. lin_o (Xe 0) (Q.loc F n (tl Xe)) j h.0)))

      two : ((j : ℕ) → Q.loc F n (tl X) j ≡ cv j (Q.loc F n (tl Xe)) (Q.loc F n (tl Xm))) → (Xm 0 ≡ 𝟘) × (X 0 ≡ Xe 0) → Q.lin F (X 0) (Q.loc F n (tl X)) i ≡ cv i (Q.lin F (Xe 0) (Q.loc F n (tl Xe))) (Q.lin F (Xm 0) (Q.loc F n (tl Xm)))
      two ih h =
          ap (λ t. Q.lin F t (Q.loc F n (tl X)) i) h.1 ∙ Q.lin_cong F (Xe 0) _ _ ih i ∙ sym (Q.conv_lin F i (Xe 0) (Q.loc F n (tl Xe)) (Q.loc F n (tl Xm)))
          ∙ ap (λ t. cv i (Q.lin F (Xe 0) (Q.loc F n (tl Xe))) t) (sym (fun_ext (λ j. lin_o (Xm 0) (Q.loc F n (tl Xm)) j h.0)))

  -- a polynomial with fewer coefficients than roots
  pub roots : (n : ℕ) (X Z f : ℕ → K) → ((i j : ℕ) → i < n → j < n → ¬ (i ≡ j) → ¬ (X i ≡ 𝟘) → ¬ (X j ≡ 𝟘) → ¬ (Z i ≡ Z j))
      → ((i : ℕ) → i < n → ¬ (X i ≡ 𝟘) → ev (wt n X) f (Z i) ≡ 𝟘) → (i : ℕ) → i < wt n X → f i ≡ 𝟘
  unfolding D.wt
  roots zero X Z f ne r i h = absurd (omega arith)
  roots (suc n) X Z f ne r i h = go (F.eq? (X 0) 𝟘) (λ g. roots n (tl X) (tl Z) g (λ i j a b c. ne (suc i) (suc j) (omega arith) (omega arith) (omega arith))) r h
    where
      go : (t : Dec (X 0 ≡ 𝟘)) → ((g : ℕ → K) → ((j : ℕ) → j < n → ¬ (X (suc j) ≡ 𝟘) → ev (wt n (tl X)) g (Z (suc j)) ≡ 𝟘) → (j : ℕ) → j < wt n (tl X) → g j ≡ 𝟘)
          → ((i : ℕ) → i < suc n → ¬ (X i ≡ 𝟘) → ev (cnt t + wt n (tl X)) f (Z i) ≡ 𝟘) → i < cnt t + wt n (tl X) → f i ≡ 𝟘
      go (yes z) ih r h = ih f (λ j w u. ap (λ m. ev m f (Z (suc j))) (omega arith) ∙ r (suc j) (omega arith) u) i (omega arith)
      go (no z) ih r h = R.back F (wt n (tl X)) f (Z 0) (at 0 (omega arith) z) (ih (R.syn F (suc (wt n (tl X))) f (Z 0)) rest) i (omega arith)
        where
          at : (j : ℕ) → j < suc n → ¬ (X j ≡ 𝟘) → ev (suc (wt n (tl X))) f (Z j) ≡ 𝟘
          at j w u = ap (λ m. ev m f (Z j)) (omega arith) ∙ r j w u

          rest : (j : ℕ) → j < n → ¬ (X (suc j) ≡ 𝟘) → ev (wt n (tl X)) (R.syn F (suc (wt n (tl X))) f (Z 0)) (Z (suc j)) ≡ 𝟘
          rest j w u =
              C.no_zero_div F (Z (suc j) ⊕ neg (Z 0)) _ (λ s. ne (suc j) 0 (omega arith) (omega arith) (omega arith) u z (R.diff_zero F _ _ s))
              (sym (C.o_add F _) ∙ ap (λ t. t ⊕ (Z (suc j) ⊕ neg (Z 0)) ⊗ ev (wt n (tl X)) (R.syn F (suc (wt n (tl X))) f (Z 0)) (Z (suc j))) (sym (at 0 (omega arith) z))
              ∙ sym (R.divides F (wt n (tl X)) f (Z 0) (Z (suc j))) ∙ at (suc j) (omega arith) u)

  -- the product over the other nodes
  pub others_ne : (n i : ℕ) (X : ℕ → K) (z : K) → i < n → X i ⊗ z ≡ 𝟙 → ((j : ℕ) → j < n → ¬ (j ≡ i) → ¬ (X j ≡ X i)) → ¬ (W.others F n i X z ≡ 𝟘)
  unfolding W.others
  others_ne zero i X z h r d = absurd (omega arith)
  others_ne (suc n) zero X z h r d = W.prod_ne F n (tl X) (X 0) z r (λ j w. d (suc j) (omega arith) (omega arith))
  others_ne (suc n) (suc i) X z h r d =
      W.mul_ne F _ _ (W.fac_ne F (X (suc i)) z (X 0) r (d 0 (omega arith) (omega arith)))
      (others_ne n i (tl X) z (omega arith) r (λ j w e. d (suc j) (omega arith) (omega arith)))

  -- the pair that is found, where the errors are few
  pub record Errata (n : ℕ) (X Xe Xm Y : ℕ → K) : Type 0 where
    pub parts : Parts n X Xe Xm
    pub apart : (i j : ℕ) → i < n → j < n → ¬ (i ≡ j) → ¬ (X i ≡ 𝟘) → ¬ (X i ≡ X j)
    pub none : (i : ℕ) → i < n → X i ≡ 𝟘 → Y i ≡ 𝟘
    pub amount : (i : ℕ) → i < n → ¬ (Xe i ≡ 𝟘) → ¬ (Y i ≡ 𝟘)

  -- the modified syndromes
  abbrev pub Modified : ℕ → ℕ → (ℕ → K) → (ℕ → K) → (ℕ → K) → (ℕ → K) → Type 0
  Modified n k X Xm Y g = (j : ℕ) → j < k → g j ≡ cv j (Q.loc F n Xm) (Q.synd F n X Y)

  wt_step : (n : ℕ) (X Xe Xm : ℕ → K) (a : Dec (X 0 ≡ 𝟘)) (b : Dec (Xe 0 ≡ 𝟘)) (c : Dec (Xm 0 ≡ 𝟘)) → ((Xe 0 ≡ 𝟘) × (X 0 ≡ Xm 0)) ⊎ ((Xm 0 ≡ 𝟘) × (X 0 ≡ Xe 0)) → cnt a ≡ cnt b + cnt c
  wt_step n X Xe Xm (yes a) (yes b) (yes c) p = omega arith
  wt_step n X Xe Xm (yes a) (yes b) (no c) p = absurd (⊎_elim (λ h. c (sym h.1 ∙ a)) (λ h. c h.0) p)
  wt_step n X Xe Xm (yes a) (no b) c p = absurd (⊎_elim (λ h. b h.0) (λ h. b (sym h.1 ∙ a)) p)
  wt_step n X Xe Xm (no a) (yes b) (yes c) p = absurd (⊎_elim (λ h. a (h.1 ∙ c)) (λ h. a (h.1 ∙ b)) p)
  wt_step n X Xe Xm (no a) (yes b) (no c) p = omega arith
  wt_step n X Xe Xm (no a) (no b) (yes c) p = omega arith
  wt_step n X Xe Xm (no a) (no b) (no c) p = absurd (⊎_elim (λ h. b h.0) (λ h. c h.0) p)

  pub wt_both : (n : ℕ) (X Xe Xm : ℕ → K) → Parts n X Xe Xm → wt n X ≡ wt n Xe + wt n Xm
  unfolding D.wt
  wt_both zero X Xe Xm p = omega arith
  wt_both (suc n) X Xe Xm p =
      let h = wt_step n X Xe Xm (F.eq? (X 0) 𝟘) (F.eq? (Xe 0) 𝟘) (F.eq? (Xm 0) 𝟘) (p 0 (omega arith)) in
      let r = wt_both n (tl X) (tl Xe) (tl Xm) (λ i w. p (suc i) (omega arith)) in omega arith
