-- Power series and polynomials over a field, by their coefficients.
use Rattle.std.specs.Prelude.{◌≡◌, ℕ, ◌<◌, zero, suc}
use Rattle.algebra.specs.Field.{Field}

module _ {K : Type 0} (F : Field K) where
  open F use {𝟘, 𝟙, ◌⊕◌, ◌⊗◌}

  infixl 60 ◌⊕◌
  infixl 70 ◌⊗◌
  -- (f * g) k
  unfoldable pub conv : ℕ → (ℕ → K) → (ℕ → K) → K
  conv zero f g = f 0 ⊗ g 0
  conv (suc k) f g = f 0 ⊗ g (suc k) ⊕ conv k (λ i. f (suc i)) g

  abbrev pub In : ℕ → (ℕ → K) → (ℕ → K) → (ℕ → K) → Type 0
  In k g a b = (j : ℕ) → j < k → a j ≡ conv j b g
