-- Internal: what the private steps of the encoder do to rows of symbols. No public promise cites these.
use Rattle.std.specs.Prelude.{◌≡◌, ℕ, suc, ◌+◌, ◌<◌, List, length, slice_index, slice_index_or}
use Rattle.field.specs.Meaning.{Meaning}
use Rattle.field.specs.Symbols.{Within}
use Rattle.field.specs.Sums.{value}

-- new is x · old + c · from in the places up to top, and old above
pub record Turned (f : Meaning) (c top : ℕ) (from old new : List ℕ) : Type 0 where
  pub first : slice_index_or new 0 0 ≡ f.prod c (slice_index from 0)
  pub later : (i : ℕ) → i < top → slice_index new (suc i) ≡ f.sum (slice_index old i) (f.prod c (slice_index from (suc i)))
  pub rest : (i : ℕ) → top < i → slice_index new i ≡ slice_index old i

-- g has degree k, leading coefficient 1, and the roots a^b .. a^(b + k - 1)
pub record Generates (f : Meaning) (b k : ℕ) (g : List ℕ) : Type 0 where
  pub within : Within f.q g
  pub top : slice_index_or g k 0 ≡ 1
  pub above : (i : ℕ) → k < i → slice_index g i ≡ 0
  pub roots : (j : ℕ) → j < k → value f (suc k) g (b + j) ≡ 0

-- at each of the k roots from a^b on, the first k places of new have the value of all of old
pub record Divided (f : Meaning) (b k : ℕ) (old new : List ℕ) : Type 0 where
  pub within : Within f.q new
  pub values : (j : ℕ) → j < k → value f (length old) old (b + j) ≡ value f k new (b + j)

-- out holds the values of w at the roots from a^b on
abbrev pub Evaluated : Meaning → ℕ → List ℕ → List ℕ → Type 0
Evaluated f b w out = (j : ℕ) → j < length out → slice_index out j ≡ value f (length w) w (b + j)
