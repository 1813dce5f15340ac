-- How far codewords are from one another.
use Rattle.std.specs.Prelude.{◌≡◌, ℕ, ◌<◌, ◌≤◌, Bool, not, List, ◌==◌, slice_index}
use Rattle.field.specs.Meaning.{Meaning, Laws}
use Rattle.code.specs.Shape.{Shape}
use Rattle.code.specs.Words.{count, check_sum, Word, Carries, Near}

-- whether v and w differ at i
abbrev pub differ : List ℕ → List ℕ → ℕ → Bool
differ v w i = not (slice_index v i == slice_index w i)

-- two words with the same check sums that differ in no more positions than there are checks are equal
abbrev pub Distance : Type 0
Distance = (f : Meaning) → Laws f → (c : Shape) → c.n ≤ f.m → (v w : List ℕ) → Word f.q c.n v → Word f.q c.n w
    → ((j : ℕ) → j < c.checks → check_sum f c v j ≡ check_sum f c w j) → count c.n (differ v w) ≤ c.checks → v ≡ w

-- at most one codeword is in reach of a word with its marks
abbrev pub OneInReach : Type 0
OneInReach = (f : Meaning) → Laws f → (c : Shape) → c.n ≤ f.m → (marks : List Bool) (w u v : List ℕ)
    → Near f c marks w u → Near f c marks w v → u ≡ v

-- at most one codeword has a given message
abbrev pub OnePerMessage : Type 0
OnePerMessage = (f : Meaning) → Laws f → (c : Shape) → c.n ≤ f.m → (w u v : List ℕ) → Carries f c w u → Carries f c w v → u ≡ v
