-- Internal: what is known once a word has been tried.
use Rattle.std.specs.Prelude.{◌≡◌, ℕ, ◌+◌, ◌*◌, ◌<◌, ◌≤◌, Bool, true, false, List, length, slice_index, slice_index_or}
use Rattle.field.specs.Meaning.{Meaning}
use Rattle.field.specs.Symbols.{Within}
use Rattle.code.specs.Shape.{Shape}
use Rattle.code.specs.Words.{Word, InReach, Near, marked, check_sum}
use Rattle.errata.specs.Pieces.{modified, places_of}
use Rattle.errata.specs.Joined.{Tried, Joined, shown}

-- g is the modified syndromes of w
pub record Modifies (f : Meaning) (c : Shape) (erased : List Bool) (w g : List ℕ) : Type 0 where
  pub long : length g ≡ c.checks
  pub inside : Within f.q g
  pub is : (j : ℕ) → j < c.checks → slice_index g j ≡ modified f (λ i. slice_index_or erased i false) (check_sum f c w) c.n j

-- u was tried by the evaluator A and the locator B, or the two show that no codeword is in reach
pub record Attempted (f : Meaning) (c : Shape) (erased : List Bool) (A B w : List ℕ) (done : Bool) (u : List ℕ) : Type 0 where
  pub tried : done ≡ true → Tried f c A B (places_of f c erased B) w u
  pub few : done ≡ true → 2 * shown f c erased B + marked c erased ≤ c.checks
  pub none : done ≡ false → (v : List ℕ) → Joined f c erased w A B v → ⊥

-- u is in reach and the only word that can be a codeword there, or there is none
pub record Repaired (f : Meaning) (c : Shape) (erased : List Bool) (w : List ℕ) (done : Bool) (u : List ℕ) : Type 0 where
  pub word : done ≡ true → Word f.q c.n u
  pub reach : done ≡ true → InReach c erased w u
  pub only : done ≡ true → (v : List ℕ) → Near f c erased w v → v ≡ u
  pub none : done ≡ false → (v : List ℕ) → Near f c erased w v → ⊥

-- u is the codeword in reach, or there is none
pub record Found (f : Meaning) (c : Shape) (erased : List Bool) (w : List ℕ) (done : Bool) (u : List ℕ) : Type 0 where
  pub near : done ≡ true → Near f c erased w u
  pub only : done ≡ true → (v : List ℕ) → Near f c erased w v → v ≡ u
  pub none : done ≡ false → (v : List ℕ) → Near f c erased w v → ⊥
