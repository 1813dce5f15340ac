-- What the methods on whole rows leave. They speak of symbols: a place that meets a number which is no symbol may come to hold any number.
use Rattle.std.specs.Prelude.{◌≡◌, ℕ, ◌<◌, ◌≤◌, List, length, slice_index}
use Rattle.field.specs.Meaning.{Meaning}

-- new is old and c times from, place by place, as far as from goes
pub record Added (f : Meaning) (c : ℕ) (from old new : List ℕ) : Type 0 where
  pub done : (i : ℕ) → i < length from → i < length old → c < f.q → slice_index from i < f.q → slice_index old i < f.q → slice_index new i ≡ f.sum (slice_index old i) (f.prod c (slice_index from i))
  pub rest : (i : ℕ) → length from ≤ i → slice_index new i ≡ slice_index old i

-- new is old times the points and w, place by place, as far as the points go
pub record Advanced (f : Meaning) (w : ℕ) (points old new : List ℕ) : Type 0 where
  pub done : (j : ℕ) → j < length points → j < length old → w < f.q → slice_index points j < f.q → slice_index old j < f.q → slice_index new j ≡ f.sum (f.prod (slice_index old j) (slice_index points j)) w
  pub rest : (j : ℕ) → length points ≤ j → slice_index new j ≡ slice_index old j
