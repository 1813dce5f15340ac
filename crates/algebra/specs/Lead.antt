use Rattle.std.specs.Prelude.{◌≡◌, ℕ, ◌≤◌, ◌<◌, ◌+◌}
use Rattle.algebra.specs.Field.{Field}

-- the order r = l - m
module _ {K : Type 0} (F : Field K) where
  open F use {𝟘}

  pub record Left (l m : ℕ) (a b : ℕ → K) (p : ℕ) : Type 0 where
    pub top : ¬ (a p ≡ 𝟘)
    pub above : (i : ℕ) → p < i → a i ≡ 𝟘
    pub other : (j : ℕ) → p + m ≤ j + l → b j ≡ 𝟘

  pub record Right (l m : ℕ) (a b : ℕ → K) (q : ℕ) : Type 0 where
    pub top : ¬ (b q ≡ 𝟘)
    pub above : (j : ℕ) → q < j → b j ≡ 𝟘
    pub other : (i : ℕ) → q + l < i + m → a i ≡ 𝟘
