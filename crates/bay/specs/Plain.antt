-- The plain bay: what it holds, and for each call the rows that refuse it, from the topmost down, and what it does otherwise.
-- A refusal answers its number, and leaves the bay and the buffers as they are.
use Rattle.std.specs.Prelude.{ℕ, ◌-◌, Bool, true, false, cond, not, ◌&&◌, ◌||◌, List, [], length, replicate, Some, None, Ok, Err, Option, Result, ◌==◌, nat_le, nat_lt, slice_index_or, slice_set}
use Rattle.field.specs.Meaning.{Meaning}
use Rattle.field.specs.Symbols.{all_below}
use Rattle.marks.specs.Marks.{marks, tidy}
use Rattle.code.specs.Shape.{Shape}
use Rattle.report.specs.Written.{Report, no_report, refused, done, over, writing}
use Rattle.report.specs.Changes.{reported}
use Rattle.code.specs.Words.{failing_root, codeword, agrees, in_reach, marked}
use Rattle.code.specs.Sought.{sought}

-- a code or none, a symbol and a mark for each position, and a report
pub record Plain : Type 0 where
  pub code : Option Shape
  pub word : List ℕ
  pub marks : List Bool
  pub report : Report

-- how a bay starts
abbrev pub empty : Plain
empty = record { code = None; word = []; marks = []; report = no_report }

-- ---- words used below

-- f of what there is, or x where there is nothing
abbrev pub given : {A X : Type 0} → Option A → X → (A → X) → X
given None x f = x
given (Some a) x f = f a

-- the same code, with another word, marks and report
abbrev pub holding : Plain → List ℕ → List Bool → Report → Plain
holding p w ms r = record { code = p.code; word = w; marks = ms; report = r }

-- ---- the calls

-- n zeros, no marks and an empty report
abbrev pub making : Meaning → Plain → ℕ → ℕ → ℕ → Result (Unit {0}) ℕ × Plain
making f p n r b =
    cond (nat_lt n 2 || nat_lt 928 n) (refused 1 p)
    (cond (r == 0 || nat_le n r || nat_lt 512 r) (refused 2 p)
    (cond (nat_lt f.m n) (refused 3 p)
    (cond (nat_le f.m b) (refused 4 p)
    (given p.code
    (done (record { code = Some (record { n = n; checks = r; first = b }); word = replicate n 0; marks = replicate n false; report = no_report }))
    (λ _. refused 6 p)))))

-- the symbols and the map replace what was held
abbrev pub loading : Meaning → Plain → List ℕ → List ℕ → Result (Unit {0}) ℕ × Plain
loading f p w map =
    given p.code (refused 5 p) (λ c.
    cond (not (length w == c.n)) (refused 7 p)
    (cond (not (tidy c.n map)) (refused 8 p)
    (cond (not (all_below f.q w)) (refused 10 p)
    (done (holding p w (marks c.n map) no_report)))))

-- one symbol is written, and that position's mark comes off
abbrev pub putting : Meaning → Plain → ℕ → ℕ → Result (Unit {0}) ℕ × Plain
putting f p pos sym =
    given p.code (refused 5 p) (λ c.
    cond (nat_le c.n pos) (refused 9 p)
    (cond (nat_le f.q sym) (refused 10 p)
    (done (holding p (slice_set p.word pos sym) (slice_set p.marks pos false) p.report))))

-- one position is marked, and keeps its symbol
abbrev pub marking : Plain → ℕ → Result (Unit {0}) ℕ × Plain
marking p pos =
    given p.code (refused 5 p) (λ c.
    cond (nat_le c.n pos) (refused 9 p)
    (cond (slice_index_or p.marks pos false) (refused 11 p)
    (done (holding p p.word (slice_set p.marks pos true) p.report))))

-- all marks come off
abbrev pub clearing : Plain → Result (Unit {0}) ℕ × Plain
clearing p =
    given p.code (refused 5 p) (λ c.
    done (holding p p.word (replicate c.n false) p.report))

-- the codeword, among all words, that agrees at the positions after the checks; there is one, so the bay never stays as it is
abbrev pub encoding : Meaning → Plain → Result (Unit {0}) ℕ × Plain
encoding f p =
    given p.code (refused 5 p) (λ c.
    given (sought f.q c.n (λ v. codeword f c v && agrees c.checks c p.word v)) (done p) (λ v.
    done (holding p v (replicate c.n false) no_report)))

-- a codeword, among all words, in reach of the word with its marks; the report tells what was met and changed
abbrev pub correcting : Meaning → Plain → Result (Unit {0}) ℕ × Plain
correcting f p =
    given p.code (refused 5 p) (λ c.
    given (sought f.q c.n (λ v. codeword f c v && in_reach c p.marks p.word v)) (refused 12 p) (λ v.
    done (holding p v (replicate c.n false) (reported (marked c p.marks) p.word v))))

-- the lowest j whose check sum is not 0, or none
abbrev pub testing : Meaning → Plain → Result (Option ℕ) ℕ
testing f p =
    given p.code (Err 5) (λ c.
    Ok (failing_root f c p.word))

-- the symbols go into a buffer
abbrev pub reading : Plain → List ℕ → Result (Unit {0}) ℕ × List ℕ
reading p buf =
    given p.code (refused 5 buf) (λ c.
    cond (nat_lt (length buf) c.n) (refused 13 buf)
    (done (over p.word buf)))

-- the report goes into a buffer
abbrev pub reporting : Plain → List ℕ → Result (Unit {0}) ℕ × List ℕ
reporting p buf =
    given p.code (refused 5 buf) (λ _.
    writing p.report buf)

-- where the message lies in a buffer: its start and its length
abbrev pub placing : Plain → List ℕ → Result (ℕ × ℕ) ℕ
placing p buf =
    given p.code (Err 5) (λ c.
    cond (nat_lt (length buf) c.n) (Err 13)
    (Ok (c.checks, c.n - c.checks)))
