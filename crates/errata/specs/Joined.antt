-- What a corrector tries, and what it then knows.
use Rattle.std.specs.Prelude.{◌≡◌, ℕ, ◌+◌, ◌*◌, ◌<◌, ◌≤◌, Bool, true, false, cond, not, ◌&&◌, ◌≢◌, List, slice_index, slice_index_or}
use Rattle.field.specs.Meaning.{Meaning}
use Rattle.code.specs.Shape.{Shape}
use Rattle.code.specs.Words.{count, Word, marked}
use Rattle.errata.specs.Pieces.{root, places_of, among, divisor, mended}

-- how many wrong positions the locator B shows
abbrev pub shown : Meaning → Shape → List Bool → List ℕ → ℕ
shown f c marks B = count c.n (λ i. not (slice_index_or marks i false) && root f B i)

-- u is w with the symbols at the places mended
pub record Tried (f : Meaning) (c : Shape) (A B places w u : List ℕ) : Type 0 where
  pub symbols : (i : ℕ) → i < c.n → slice_index u i ≡ cond (among places i) (mended f c A B places w i) (slice_index w i)
  pub word : Word f.q c.n u

-- the tests that pass where a codeword v is in reach, and v is what is tried
pub record Joined (f : Meaning) (c : Shape) (marks : List Bool) (w A B v : List ℕ) : Type 0 where
  pub few : 2 * shown f c marks B + marked c marks ≤ c.checks
  pub divides : (k : ℕ) → k < c.n → among (places_of f c marks B) k ≡ true → divisor f c B (places_of f c marks B) k ≢ 0
  pub only : (u : List ℕ) → Tried f c A B (places_of f c marks B) w u → v ≡ u
