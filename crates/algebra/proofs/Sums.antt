use mathlib.Core.Path.{◌≡◌, refl, sym, ap, ap₂, ◌∙◌}
use Prim.Native.Nat.{ℕ, ◌+◌, ◌-◌, ◌<◌, zero, suc}
use native.Mathlib.Omega.{arith}
use native.Mathlib.Nat.{suc-add, zero-add}
use Rattle.algebra.specs.Field.{Field}
use Rattle.algebra.proofs.Convolution as C
use Rattle.algebra.proofs.Convolution.{ac, tl}

module _ {K : Type 0} (F : Field K) where
  open F use {𝟘, 𝟙, ◌⊕◌, ◌⊗◌, neg, inv}

  infixl 60 ◌⊕◌
  infixl 70 ◌⊗◌
  -- the sum over i < n of f i
  unfoldable pub sum : ℕ → (ℕ → K) → K
  sum zero f = 𝟘
  sum (suc n) f = f 0 ⊕ sum n (λ i. f (suc i))

  pub sum_o : (f : ℕ → K) → sum 0 f ≡ 𝟘
  unfolding sum
  sum_o f = refl

  pub sum_suc : (n : ℕ) (f : ℕ → K) → sum (suc n) f ≡ f 0 ⊕ sum n (λ i. f (suc i))
  unfolding sum
  sum_suc n f = refl

  pub sum_cong : (n : ℕ) (f g : ℕ → K) → ((i : ℕ) → i < n → f i ≡ g i) → sum n f ≡ sum n g
  unfolding sum
  sum_cong zero f g e = refl
  sum_cong (suc n) f g e = ap₂ ◌⊕◌ (e 0 (omega arith)) (sum_cong n (λ i. f (suc i)) (λ i. g (suc i)) (λ i h. e (suc i) (omega arith)))

  pub sum_zero : (n : ℕ) (f : ℕ → K) → ((i : ℕ) → i < n → f i ≡ 𝟘) → sum n f ≡ 𝟘
  unfolding sum
  sum_zero zero f e = refl
  sum_zero (suc n) f e = ap₂ ◌⊕◌ (e 0 (omega arith)) (sum_zero n (λ i. f (suc i)) (λ i h. e (suc i) (omega arith))) ∙ C.add_o F 𝟘

  pub sum_last : (n : ℕ) (f : ℕ → K) → sum (suc n) f ≡ sum n f ⊕ f n
  sum_last zero f = rw (sum_suc 0 f) (simp (sum_o, C.add_comm F))
  sum_last (suc n) f = rw (sum_suc (suc n) f, sum_suc n f, sum_last n (λ i. f (suc i))) (sym (C.add_assoc F _ _ _))

  pub sum_add : (n : ℕ) (f g : ℕ → K) → sum n (λ i. f i ⊕ g i) ≡ sum n f ⊕ sum n g
  sum_add zero f g = simp (sum_o, C.add_o F)
  sum_add (suc n) f g = simp (sum_suc, sum_add n (λ i. f (suc i)) (λ i. g (suc i)), C.add_assoc F, C.add_comm F, C.add_left_comm F)

  pub sum_scale : (n : ℕ) (c : K) (f : ℕ → K) → sum n (λ i. c ⊗ f i) ≡ c ⊗ sum n f
  sum_scale zero c f = simp (sum_o, C.mul_o F)
  sum_scale (suc n) c f = simp (sum_suc, sum_scale n c (λ i. f (suc i)), C.mul_add F)

  pub sum_split : (m n : ℕ) (f : ℕ → K) → sum (m + n) f ≡ sum m f ⊕ sum n (λ i. f (m + i))
  sum_split zero n f = simp (zero-add, sum_o, C.o_add F)
  sum_split (suc m) n f = simp (suc-add, sum_suc, sum_split m n (λ i. f (suc i)), C.add_assoc F)

  pub sum_swap : (m n : ℕ) (f : ℕ → ℕ → K) → sum m (λ i. sum n (f i)) ≡ sum n (λ j. sum m (λ i. f i j))
  sum_swap zero n f = sum_o _ ∙ sym (sum_zero n _ (λ i h. sum_o _))
  sum_swap (suc m) n f = simp (sum_suc, sum_add n (λ j. f 0 j) (λ j. sum m (λ i. f (suc i) j)), sum_swap m n (λ i. f (suc i)))

  -- all but one vanish
  pub sum_one : (n k : ℕ) (f : ℕ → K) → k < n → ((i : ℕ) → i < n → ¬ (i ≡ k) → f i ≡ 𝟘) → sum n f ≡ f k
  unfolding sum
  sum_one zero k f h z = absurd (omega arith)
  sum_one (suc n) zero f h z = ap (λ t. f 0 ⊕ t) (sum_zero n (λ i. f (suc i)) (λ i w. z (suc i) (omega arith) (omega arith))) ∙ C.add_o F _
  sum_one (suc n) (suc k) f h z = ap₂ ◌⊕◌ (z 0 (omega arith) (omega arith)) (sum_one n k (λ i. f (suc i)) (omega arith) (λ i w ne. z (suc i) (omega arith) (omega arith))) ∙ C.o_add F _

  -- convolution as a sum
  pub conv_sum : (k : ℕ) (f g : ℕ → K) → C.conv F k f g ≡ sum (suc k) (λ i. f i ⊗ g (k - i))
  conv_sum zero f g = rw (C.conv_o F f g, sum_suc 0 (λ i. f i ⊗ g (0 - i))) (simp (sum_o, C.add_o F))
  conv_sum (suc k) f g =
      rw (C.conv_suc F k f g, sum_suc (suc k) (λ i. f i ⊗ g (suc k - i)), conv_sum k (tl F f) g)
      (ap₂ ◌⊕◌ (ap (λ j. f 0 ⊗ g j) (omega arith)) (sum_cong (suc k) _ _ (λ i h. ap (λ j. f (suc i) ⊗ g j) (omega arith))))
