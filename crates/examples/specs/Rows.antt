-- What a worked example is, and when it is right: by what the plain bay's calls come to, and by what solve answers.
use Rattle.std.specs.Prelude.{◌≡◌, ℕ, ◌+◌, Bool, true, false, List, [], ◌∷◌, replicate, ℤ, Some, None, Ok, Result, slice_set}
use Rattle.field.specs.Meaning.{Meaning}
use Rattle.code.specs.Shape.{Shape}
use Rattle.report.specs.Written.{no_report, refused, over, written}
use Rattle.bay.specs.Plain.{Plain, testing, encoding, correcting}
use Rattle.solver.specs.Answer.{Answered}
use Rattle.solver.specs.declared.Side.{Side}

-- what a call on a bay gives
pub data Gives : Type 0 where
  -- test finds no root that fails
  test_absent : Gives
  -- encode leaves this word
  encode_gives : List ℕ → Gives
  -- correct leaves this word, and this report as it is written
  correct_gives : List ℕ → List ℕ → Gives
  -- correct is turned down with this number
  correct_answers : ℕ → Gives

pub data Row : Type 0 where
  -- a field, a code, a word, the positions that are marked, and what a call then gives
  on_bay : Meaning → Shape → List ℕ → List ℕ → Gives → Row
  -- a field, the coefficients of g, their count n, the order r, the halves of the pair that solve finds, and what it answers
  on_solve : Meaning → List ℕ → ℕ → ℤ → List ℕ → List ℕ → ℕ × ℕ × Side → Row

-- n positions, of which those listed are marked
abbrev pub marks_at : ℕ → List ℕ → List Bool
marks_at n [] = replicate n false
marks_at n (i ∷ more) = slice_set (marks_at n more) i true

-- a plain bay that holds this code, this word and these marks
abbrev pub bay_with : Shape → List ℕ → List ℕ → Plain
bay_with c w marked = record { code = Some c; word = w; marks = marks_at c.n marked; report = no_report }

-- a call was accepted, and the bay then holds this word, no marks, and a report that is written so
pub record Leaves (c : Shape) (out : Result (Unit {0}) ℕ × Plain) (word report : List ℕ) : Type 0 where
  pub accepted : out.0 ≡ Ok tt
  pub code_kept : out.1.code ≡ Some c
  pub word_is : out.1.word ≡ word
  pub marks_off : out.1.marks ≡ replicate c.n false
  pub report_is : written out.1.report ≡ report

-- what a call on the plain bay p, whose code is c, gives is right
abbrev pub Gave : Meaning → Shape → Plain → Gives → Type 0
Gave f c p test_absent = testing f p ≡ Ok None
Gave f c p (encode_gives word) = Leaves c (encoding f p) word (written no_report)
Gave f c p (correct_gives word report) = Leaves c (correcting f p) word report
Gave f c p (correct_answers number) = correcting f p ≡ refused number p

-- an example is right; solve is given buffers of n + 1 zeros, and the halves are written from their start
abbrev pub Holds : Row → Type 0
Holds (on_bay f c word marked gives) = Gave f c (bay_with c word marked) gives
Holds (on_solve f g n r a b found) =
    let buffer = replicate (n + 1) 0 in
    Answered f g n r buffer buffer (over a buffer) (over b buffer) (Ok found)
