use mathlib.Core.Path.{◌≡◌, refl, sym, ◌∙◌}
use Prim.Native.Nat.{ℕ, ◌+◌, ◌<◌, ◌≤◌}
use native.Mathlib.Omega.{arith}
use native.Mathlib.Decide.{dec_lt, dec_le}
use Rattle.algebra.specs.Field.{Field}
use Rattle.algebra.specs.Lead.{Left, Right}
use Rattle.algebra.specs.Poly.{In}
use Rattle.algebra.proofs.Convolution as C

module _ {K : Type 0} (F : Field K) where
  open F use {𝟘, 𝟙, ◌⊕◌, ◌⊗◌, neg, inv}

  infixl 60 ◌⊕◌
  infixl 70 ◌⊗◌
  abbrev cv : ℕ → (ℕ → K) → (ℕ → K) → K
  cv = C.conv F

  pub cross : (k : ℕ) (g a b u v : ℕ → K) → In F k g a b → In F k g u v → (j : ℕ) → j < k → cv j a v ≡ cv j u b
  cross k g a b u v s t j h =
      C.conv_cong F j a (λ i. cv i b g) v v (λ i w. s i (omega arith)) (λ i w. refl)
      ∙ C.conv_assoc F j b g v
      ∙ C.conv_cong F j b b (λ i. cv i g v) u (λ i w. refl) (λ i w. C.conv_comm F i g v ∙ sym (t i (omega arith)))
      ∙ C.conv_comm F j b u

  pub prod_l : (x y : K) → x ≡ 𝟘 → x ⊗ y ≡ 𝟘
  prod_l x y e = rw e (C.o_mul F y)

  pub prod_r : (x y : K) → y ≡ 𝟘 → x ⊗ y ≡ 𝟘
  prod_r x y e = rw e (C.mul_o F x)

  pub clash : (l m k : ℕ) (g a b u v : ℕ → K) (p q : ℕ) → In F k g a b → In F k g u v → Left F l m a b p → Right F l m u v q → k ≤ p + q
  clash l m k g a b u v p q s t x y = elim (dec_le k (p + q)) [ yes h ↦ h | no h ↦ absurd (y.top (C.no_zero_div F (a p) (v q) x.top (bad (omega arith)))) ]
    where
      main : (i j : ℕ) → i + j ≡ p + q → ¬ (i ≡ p) → a i ⊗ v j ≡ 𝟘
      main i j e ne = elim (dec_lt p i) [ yes h ↦ prod_l _ _ (x.above i h) | no h ↦ prod_r _ _ (y.above j (omega arith)) ]

      zeros : (i j : ℕ) → i + j ≡ p + q → u i ⊗ b j ≡ 𝟘
      zeros i j e = elim (dec_le (p + m) (j + l)) [ yes h ↦ prod_r _ _ (x.other j h) | no h ↦ prod_l _ _ (y.other i (omega arith)) ]

      bad : p + q < k → a p ⊗ v q ≡ 𝟘
      bad h = sym (C.conv_one F (p + q) p q a v refl main) ∙ cross k g a b u v s t (p + q) h ∙ C.conv_zero F (p + q) u b zeros

  pub no_left_below : (l m k : ℕ) (g a₁ b₁ : ℕ → K) (p q : ℕ) → p + q ≡ k → In F k g a₁ b₁ → Right F l m a₁ b₁ q →
      (u v : ℕ → K) (i : ℕ) → In F k g u v → Left F l m u v i → p ≤ i
  no_left_below l m k g a₁ b₁ p q e s r u v i t x = let h = clash l m k g u v a₁ b₁ i q t s x r in omega arith

  pub no_right_below : (l m k : ℕ) (g a₀ b₀ : ℕ → K) (p q : ℕ) → p + q ≡ k → In F k g a₀ b₀ → Left F l m a₀ b₀ p →
      (u v : ℕ → K) (i : ℕ) → In F k g u v → Right F l m u v i → q ≤ i
  no_right_below l m k g a₀ b₀ p q e s r u v i t x = let h = clash l m k g a₀ b₀ u v p i s t r x in omega arith
