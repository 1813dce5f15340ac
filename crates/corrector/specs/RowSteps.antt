-- Internal: what the loops over rows leave.
use Rattle.std.specs.Prelude.{◌≡◌, ℕ, ◌<◌, Bool, false, List, length, slice_index, slice_index_or}
use Rattle.field.specs.Meaning.{Meaning}
use Rattle.code.specs.Shape.{Shape}
use Rattle.code.specs.Words.{check_sum}
use Rattle.errata.specs.Pieces.{less, modified}

-- ys is xs times 1 - x z, without what is past its end
pub record Multiplied (f : Meaning) (x : ℕ) (xs ys : List ℕ) : Type 0 where
  pub long : length ys ≡ length xs
  pub is : (j : ℕ) → j < length xs → slice_index ys j ≡ less f x (λ i. slice_index xs i) j

-- ys is xs times 1 - a^i z for each erased position i below n
pub record Modified (f : Meaning) (erased : List Bool) (n : ℕ) (xs ys : List ℕ) : Type 0 where
  pub long : length ys ≡ length xs
  pub is : (j : ℕ) → j < length xs → slice_index ys j ≡ modified f (λ i. slice_index_or erased i false) (λ i. slice_index xs i) n j

-- S is the syndromes of w
abbrev pub Syndromes : Meaning → Shape → List ℕ → List ℕ → Type 0
Syndromes f c w S = (j : ℕ) → j < c.checks → slice_index S j ≡ check_sum f c w j
