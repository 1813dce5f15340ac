-- Internal: what the small steps of the solver do to one row.
use Rattle.std.specs.Prelude.{◌≡◌, ℕ, suc, ◌<◌, ◌≤◌, List, slice_index, slice_index_or}
use Rattle.field.specs.Meaning.{Meaning}

-- ys is the first size places of xs times x
pub record Raised (size : ℕ) (xs ys : List ℕ) : Type 0 where
  pub first : slice_index_or ys 0 0 ≡ 0
  pub moved : (i : ℕ) → i < size → slice_index ys (suc i) ≡ slice_index xs i
  pub rest : (i : ℕ) → size < i → slice_index ys i ≡ slice_index xs i

-- ys is to with c times from added in the first size places
pub record Mixed (f : Meaning) (c size : ℕ) (from to ys : List ℕ) : Type 0 where
  pub done : (i : ℕ) → i < size → slice_index ys i ≡ f.sum (slice_index to i) (f.prod c (slice_index from i))
  pub rest : (i : ℕ) → size ≤ i → slice_index ys i ≡ slice_index to i

-- ys is to with c times from written over the first size places
pub record Scaled (f : Meaning) (c size : ℕ) (from to ys : List ℕ) : Type 0 where
  pub done : (i : ℕ) → i < size → slice_index ys i ≡ f.prod c (slice_index from i)
  pub rest : (i : ℕ) → size ≤ i → slice_index ys i ≡ slice_index to i
