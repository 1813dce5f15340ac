-- A session of the bench: its first line names the field, and each line after it is answered over that field.
use Rattle.std.specs.Prelude.{◌≡◌, ℕ, ◌≢◌, List, [], codes}
use Rattle.field.specs.Meaning.{Meaning}
use Rattle.f929.specs.Residues.{residues}
use Rattle.f256.specs.Bytes.{bytes}
use Rattle.f16.specs.Sixteen.{sixteen}
use Rattle.bay.specs.Plain.{Plain, empty}
use Rattle.text.specs.Answers.{question}
use Rattle.script.specs.Replies.{Replies}

-- where a session is: before its first line, over a field with what its bay holds, or at its end
pub data Session : Type 0 where
  waiting : Session
  over : Meaning → Plain → Session
  closed : Session

-- the first line: a field's name has no answer; any other line is answered by a question mark, and ends the session
pub record Opens (line answer : List ℕ) (after : Session) : Type 0 where
  pub label : line ≡ codes "929" → (answer ≡ []) × (after ≡ over residues empty)
  pub reel : line ≡ codes "256" → (answer ≡ []) × (after ≡ over bytes empty)
  pub control : line ≡ codes "16" → (answer ≡ []) × (after ≡ over sixteen empty)
  pub other : line ≢ codes "929" → line ≢ codes "256" → line ≢ codes "16" → (answer ≡ question) × (after ≡ closed)

-- a line, the bytes that answer it, and where the session is then
abbrev pub Talks : Session → List ℕ → List ℕ → Session → Type 0
Talks waiting line answer after = Opens line answer after
Talks (over f p) line answer after = (q : Plain) × (after ≡ over f q) × Replies f p line answer q
Talks closed line answer after = (answer ≡ []) × (after ≡ closed)
