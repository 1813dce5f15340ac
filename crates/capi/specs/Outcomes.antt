-- What the calls on words answer and leave, from the three numbers of a code, a word and its buffers.
-- a is the answer: a call that does not fit is refused by its row, the topmost where several hold, and changes nothing.
use Rattle.std.specs.Prelude.{◌≡◌, ℕ, Bool, cond, List, [], length, Some, None, Ok, Err, Option, Result, nat_lt, slice_set}
use Rattle.field.specs.Meaning.{Meaning}
use Rattle.code.specs.Shape.{Shape, coding}
use Rattle.code.specs.Fitting.{fitting}
use Rattle.code.specs.Words.{failing_root}
use Rattle.encoder.specs.Encodes.{Encodes}
use Rattle.corrector.specs.Corrected.{Corrected}
use Rattle.marks.specs.Marks.{marks, tidy}

-- the code of three numbers, where they are those of a code
abbrev pub code : ℕ → ℕ → ℕ → Shape
code n r b = record { n = n; checks = r; first = b }

-- g of the value, or the refusal that stands before it
abbrev pub after : {X Y : Type 0} → Result X ℕ → (X → Result Y ℕ) → Result Y ℕ
after (Ok x) g = g x
after (Err k) g = Err k

-- encode met the word w and left v
pub record Encoded (f : Meaning) (n r b : ℕ) (w : List ℕ) (a : Result (Unit {0}) ℕ) (v : List ℕ) : Type 0 where
  pub rows : a ≡ after (coding n r b) (λ c. fitting f c w tt)
  pub encodes : a ≡ Ok tt → Encodes f (code n r b) w v
  pub kept : (k : ℕ) → a ≡ Err k → v ≡ w

-- row 13: a buffer of two places or more is asked for
abbrev pub roomy : List ℕ → Result (Unit {0}) ℕ
roomy buffer = cond (nat_lt (length buffer) 2) (Err 13) (Ok tt)

-- the first two places tell of a failing root: 1 and its number, or 0 and 0 where there is none
abbrev pub told : Option ℕ → List ℕ → List ℕ
told None buffer = slice_set (slice_set buffer 0 0) 1 0
told (Some j) buffer = slice_set (slice_set buffer 0 1) 1 j

-- test met the word w and the buffer `old`, and left `new` there
pub record Tested (f : Meaning) (n r b : ℕ) (w old : List ℕ) (a : Result (Unit {0}) ℕ) (new : List ℕ) : Type 0 where
  pub rows : a ≡ after (coding n r b) (λ c. after (fitting f c w (tt {0})) (λ _. roomy old))
  pub tells : a ≡ Ok tt → new ≡ told (failing_root f (code n r b) w) old
  pub kept : (k : ℕ) → a ≡ Err k → new ≡ old

-- the erasures that a map tells, one for each position; none where it is no map of n positions, which no word of n symbols fits (row 8)
abbrev pub erasures : ℕ → List ℕ → List Bool
erasures n map = cond (tidy n map) (marks n map) []

-- correct met the word w with the map of its erasures, and left v
pub record Restored (f : Meaning) (n r b : ℕ) (w map : List ℕ) (a : Result (Unit {0}) ℕ) (v : List ℕ) : Type 0 where
  pub rows : (k : ℕ) → coding n r b ≡ Err k → (a ≡ Err k) × (v ≡ w)
  pub corrected : coding n r b ≡ Ok (code n r b) → Corrected f (code n r b) (erasures n map) w a v
