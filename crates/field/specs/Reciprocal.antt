-- The reciprocal by what it is, so that a field can say it from its product alone.
use Rattle.std.specs.Prelude.{ℕ, zero, suc, cond, ◌==◌}

-- the number below n whose product with x is 1: the largest one, and 0 where there is none
unfoldable pub reciprocal_below : (ℕ → ℕ → ℕ) → ℕ → ℕ → ℕ
reciprocal_below prod zero x = 0
reciprocal_below prod (suc n) x = cond (prod x n == 1) n (reciprocal_below prod n x)
