-- Internal: what locating and mending leave.
use Rattle.std.specs.Prelude.{◌≡◌, ℕ, ◌<◌, ◌≤◌, Bool, true, false, not, ◌&&◌, List, slice_index_or}
use Rattle.field.specs.Meaning.{Meaning}
use Rattle.code.specs.Shape.{Shape}
use Rattle.code.specs.Words.{count}
use Rattle.errata.specs.Pieces.{root, located, passing, among, divisor}
use Rattle.errata.specs.Joined.{Tried}

-- the places are the located positions below n, and errors says how many of these are not erased
pub record Placed (f : Meaning) (erased : List Bool) (B : List ℕ) (n : ℕ) (places : List ℕ) (errors : ℕ) : Type 0 where
  pub is : places ≡ passing n (located f erased B)
  pub rare : errors ≤ n
  pub number : errors ≡ count n (λ i. not (slice_index_or erased i false) && root f B i)

-- a place whose divisor is 0
abbrev pub Stuck : Meaning → Shape → List ℕ → List ℕ → Type 0
Stuck f c B places = (k : ℕ) × (k < c.n) × (among places k ≡ true) × (divisor f c B places k ≡ 0)

-- u is w with the symbols at the places mended, or a divisor is 0
pub record Mended (f : Meaning) (c : Shape) (A B places w : List ℕ) (done : Bool) (u : List ℕ) : Type 0 where
  pub tried : done ≡ true → Tried f c A B places w u
  pub stuck : done ≡ false → Stuck f c B places
