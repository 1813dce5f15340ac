-- A word of weight at most k whose first k syndromes vanish is zero.
use mathlib.Core.Path.{◌≡◌, refl, sym, ap, ◌∙◌}
use mathlib.Core.Bool.{Bool, true, false, cond}
use Prim.Native.Nat.{ℕ, ◌+◌, ◌<◌, ◌≤◌, zero, suc}
use native.Mathlib.Omega.{arith}
use Rattle.algebra.specs.Field.{Field}
use Rattle.algebra.proofs.Convolution as C
use Rattle.algebra.proofs.Sums as S
use Rattle.algebra.proofs.Roots as R
use Rattle.algebra.proofs.RingSolver as V
use Rattle.algebra.proofs.RingSolver.{E, Eqn, ◌:+◌, ◌:−◌, ◌:*◌, ◌:=◌, nil, one, mns, v0, v1, v2, v3}

module _ {K : Type 0} (F : Field K) where
  open F use {𝟘, 𝟙, ◌⊕◌, ◌⊗◌, neg, inv}

  infixl 60 ◌⊕◌
  infixl 70 ◌⊗◌
  abbrev tl : (ℕ → K) → ℕ → K
  tl f i = f (suc i)

  abbrev pub count : {x : K} → Dec (x ≡ 𝟘) → ℕ
  count (yes _) = 0
  count (no _) = 1

  unfoldable pub wt : ℕ → (ℕ → K) → ℕ
  wt zero d = 0
  wt (suc n) d = count (F.eq? (d 0) 𝟘) + wt n (tl d)

  count_mono : {x y : K} (a : Dec (x ≡ 𝟘)) (b : Dec (y ≡ 𝟘)) → (x ≡ 𝟘 → y ≡ 𝟘) → count b ≤ count a
  count_mono (yes p) (yes q) f = omega arith
  count_mono (yes p) (no q) f = absurd (q (f p))
  count_mono (no p) (yes q) f = omega arith
  count_mono (no p) (no q) f = omega arith

  wt_mono : (n : ℕ) (d w : ℕ → K) → ((i : ℕ) → d i ≡ 𝟘 → w i ≡ 𝟘) → wt n w ≤ wt n d
  unfolding wt
  wt_mono zero d w f = omega arith
  wt_mono (suc n) d w f = let h = count_mono (F.eq? (d 0) 𝟘) (F.eq? (w 0) 𝟘) (f 0) in let r = wt_mono n (tl d) (tl w) (λ i. f (suc i)) in omega arith

  abbrev pub Checks : ℕ → ℕ → (ℕ → K) → (ℕ → K) → Type 0
  Checks n k d X = (j : ℕ) → j < k → S.sum F n (λ i. d i ⊗ R.pow F (X i) j) ≡ 𝟘

  -- leaving node 0 out
  checks_skip : (n k : ℕ) (d X : ℕ → K) → d 0 ≡ 𝟘 → Checks (suc n) k d X → Checks n k (tl d) (tl X)
  checks_skip n k d X z c j h =
      sym (C.o_add F _) ∙ ap (λ t. t ⊕ S.sum F n (λ i. d (suc i) ⊗ R.pow F (X (suc i)) j)) (sym (C.o_mul F _) ∙ ap (λ t. t ⊗ R.pow F (X 0) j) (sym z)) ∙ sym (S.sum_suc F n _) ∙ c j h

  checks_less : (n k : ℕ) (d X : ℕ → K) → Checks (suc n) (suc k) d X → Checks n k (λ i. d (suc i) ⊗ (X (suc i) ⊕ neg (X 0))) (tl X)
  checks_less n k d X e j h =
      S.sum_cong F n _ (λ i. d (suc i) ⊗ R.pow F (X (suc i)) (suc j) ⊕ neg (X 0) ⊗ (d (suc i) ⊗ R.pow F (X (suc i)) j)) (λ i w. spread i)
      ∙ S.sum_add F n (λ i. d (suc i) ⊗ R.pow F (X (suc i)) (suc j)) (λ i. neg (X 0) ⊗ (d (suc i) ⊗ R.pow F (X (suc i)) j))
      ∙ ap (λ t. part (suc j) ⊕ t) (S.sum_scale F n (neg (X 0)) (λ i. d (suc i) ⊗ R.pow F (X (suc i)) j))
      ∙ R.join F (d 0) (X 0) (R.pow F (X 0) j) (part j) (part (suc j)) (ap (λ t. d 0 ⊗ t ⊕ part (suc j)) (sym (R.pow_suc F _ _)) ∙ sym (S.sum_suc F n _) ∙ e (suc j) (omega arith)) (sym (S.sum_suc F n _) ∙ e j (omega arith))
    where
      part : ℕ → K
      part j = S.sum F n (λ i. d (suc i) ⊗ R.pow F (X (suc i)) j)

      spread : (i : ℕ) → d (suc i) ⊗ (X (suc i) ⊕ neg (X 0)) ⊗ R.pow F (X (suc i)) j ≡ d (suc i) ⊗ R.pow F (X (suc i)) (suc j) ⊕ neg (X 0) ⊗ (d (suc i) ⊗ R.pow F (X (suc i)) j)
      spread i = rw (R.pow_suc F (X (suc i)) j) (V.solve4 F (λ a x z p. a :* (x :− z) :* p := a :* (x :* p) :+ mns z :* (a :* p)) refl _ _ _ _)

  abbrev Claim : ℕ → Type 0
  Claim n = (k : ℕ) (d X : ℕ → K) → R.Distinct F n X → wt n d ≤ k → Checks n k d X → (i : ℕ) → i < n → d i ≡ 𝟘

  first : (n : ℕ) (d X : ℕ → K) → ((i : ℕ) → i < n → d (suc i) ≡ 𝟘) → S.sum F (suc n) (λ i. d i ⊗ R.pow F (X i) 0) ≡ 𝟘 → d 0 ≡ 𝟘
  first n d X z e =
      sym (C.mul_one F _) ∙ ap (λ t. d 0 ⊗ t) (sym (R.pow_o F _)) ∙ sym (C.add_o F _)
      ∙ ap (λ t. d 0 ⊗ R.pow F (X 0) 0 ⊕ t) (sym (S.sum_zero F n (λ i. d (suc i) ⊗ R.pow F (X (suc i)) 0) (λ i h. ap (λ t. t ⊗ R.pow F (X (suc i)) 0) (z i h) ∙ C.o_mul F _)))
      ∙ sym (S.sum_suc F n _) ∙ e

  go : (n : ℕ) → Claim n → (k : ℕ) (d X : ℕ → K) → R.Distinct F (suc n) X → Checks (suc n) k d X → (t : Dec (d 0 ≡ 𝟘)) → count t + wt n (tl d) ≤ k → (i : ℕ) → i < suc n → d i ≡ 𝟘
  go n ih k d X ne c (yes z) w zero h = z
  go n ih k d X ne c (yes z) w (suc i) h =
      ih k (tl d) (tl X) (λ i j a b c. ne (suc i) (suc j) (omega arith) (omega arith) (omega arith)) (omega arith) (checks_skip n k d X z c) i (omega arith)
  go n ih zero d X ne c (no z) w i h = absurd (omega arith)
  go n ih (suc k) d X ne c (no z) w i h = absurd (z (first n d X later (c 0 (omega arith))))
    where
      less : wt n (λ i. d (suc i) ⊗ (X (suc i) ⊕ neg (X 0))) ≤ wt n (tl d)
      less = wt_mono n (tl d) _ (λ i e. ap (λ t. t ⊗ (X (suc i) ⊕ neg (X 0))) e ∙ C.o_mul F _)

      later : (i : ℕ) → i < n → d (suc i) ≡ 𝟘
      later i h =
          C.no_zero_div F _ _ (λ t. ne (suc i) 0 (omega arith) (omega arith) (omega arith) (R.diff_zero F _ _ t))
          (C.mul_comm F _ _ ∙ ih k (λ i. d (suc i) ⊗ (X (suc i) ⊕ neg (X 0))) (tl X) (λ i j a b c. ne (suc i) (suc j) (omega arith) (omega arith) (omega arith)) (omega (arith, less)) (checks_less n k d X c) i h)

  pub distance : (n : ℕ) → Claim n
  unfolding wt
  distance zero k d X ne w c i h = absurd (omega arith)
  distance (suc n) k d X ne w c i h = go n (distance n) k d X ne c (F.eq? (d 0) 𝟘) w i h

  -- how many numbers below n pass
  abbrev pub tally : ℕ → (ℕ → Bool) → ℕ
  tally zero p = 0
  tally (suc n) p = cond (p 0) 1 0 + tally n (λ i. p (suc i))

  count_le : {x : K} (a : Dec (x ≡ 𝟘)) (b : Bool) → (b ≡ false → x ≡ 𝟘) → count a ≤ cond b 1 0
  count_le (yes p) true h = omega arith
  count_le (yes p) false h = omega arith
  count_le (no p) true h = omega arith
  count_le (no p) false h = absurd (p (h refl))

  pub wt_le : (n : ℕ) (d : ℕ → K) (p : ℕ → Bool) → ((i : ℕ) → p i ≡ false → d i ≡ 𝟘) → wt n d ≤ tally n p
  unfolding wt
  wt_le zero d p h = omega arith
  wt_le (suc n) d p h = let a = count_le (F.eq? (d 0) 𝟘) (p 0) (h 0) in let r = wt_le n (tl d) (λ i. p (suc i)) (λ i. h (suc i)) in omega arith
