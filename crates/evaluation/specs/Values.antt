-- Rows of zeros, rows of powers, and values of a polynomial at the points of a row.
use Rattle.std.specs.Prelude.{◌≡◌, ℕ, ◌+◌, ◌*◌, ◌<◌, ◌≤◌, List, length, slice_index}
use Rattle.field.specs.Meaning.{Meaning, pow}
use Rattle.field.specs.Symbols.{Within}
use Rattle.field.specs.Sums.{value_at}

-- new is 0 in the first n places, as far as the row goes, and old after them
pub record Cleared (n : ℕ) (old new : List ℕ) : Type 0 where
  pub done : (i : ℕ) → i < n → slice_index new i ≡ 0
  pub rest : (i : ℕ) → n ≤ i → slice_index new i ≡ slice_index old i

-- place j of the row holds a to the start + j · step
abbrev pub Powers : Meaning → ℕ → ℕ → List ℕ → Type 0
Powers f start step row = (j : ℕ) → j < length row → slice_index row j ≡ pow f f.a (start + j * step)

-- new holds the value of the polynomial at each point, and old past the points
pub record Values (f : Meaning) (polynomial points old new : List ℕ) : Type 0 where
  pub done : Within f.q polynomial → (j : ℕ) → j < length points → j < length old → slice_index points j < f.q → slice_index new j ≡ value_at f (length polynomial) polynomial (slice_index points j)
  pub rest : (j : ℕ) → length points ≤ j → slice_index new j ≡ slice_index old j
