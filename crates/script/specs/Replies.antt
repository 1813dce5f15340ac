-- The bytes that answer a line of the bench, over what a plain bay holds.
use Rattle.std.specs.Prelude.{◌≡◌, ℕ, ◌+◌, ◌*◌, List, [], ◌∷◌, take, Some, None, Option, slice_index}
use Rattle.field.specs.Meaning.{Meaning}
use Rattle.bay.specs.Plain.{Plain, given}
use Rattle.calls.specs.Steps.{Asked, Said, step, make, load, put, mark, clear, encode, correct, test, read, report, message, yes, no, root, part}
use Rattle.text.specs.Answers.{question, accepting, refusing}
use Rattle.text.specs.Lines.{Says, SaysNothing}
use Rattle.script.specs.Requests.{requested}

-- how many positions the word has, 0 where there is no code
abbrev pub positions : Plain → ℕ
positions p = given p.code 0 (λ c. c.n)

-- the numbers that an accepted call answers: a read the n symbols, a report its two sizes and its two arrays
abbrev pub answered : ℕ → Asked → List ℕ
answered n (make m r b) = []
answered n (load w map) = []
answered n (put pos sym) = []
answered n (mark pos) = []
answered n clear = []
answered n encode = []
answered n correct = []
answered n test = []
answered n (read buf) = take n buf
answered n (report buf) = take (2 + 2 * slice_index buf 0) buf
answered n (message buf) = []

-- the line that answers a call which was made
abbrev pub line_of : ℕ → Asked → Said → List ℕ
line_of n call yes = accepting (answered n call)
line_of n call (no k) = refusing k
line_of n call (root None) = accepting []
line_of n call (root (Some j)) = accepting (j ∷ [])
line_of n call (part start size) = accepting []

-- the answer to a request and what the bay then holds: a question mark where nothing is requested
abbrev pub replying : Meaning → Plain → Option Asked → List ℕ × Plain
replying f p None = (question, p)
replying f p (Some ask) = let s = step f p ask in (line_of (positions s.1) s.0.call s.0.answer, s.1)

-- the line is answered by these bytes, and leaves q where p was held
pub record Replies (f : Meaning) (p : Plain) (line bytes : List ℕ) (q : Plain) : Type 0 where
  pub heard : (letter : ℕ) (numbers : List ℕ) → Says line letter numbers → (bytes, q) ≡ replying f p (requested letter numbers)
  pub unheard : SaysNothing line → (bytes, q) ≡ replying f p None
