-- What correct answers, and what it leaves in the word.
use Rattle.std.specs.Prelude.{◌≡◌, ℕ, Bool, cond, not, ◌⊎◌, List, length, Ok, Err, Result, ◌==◌, nat_le, nat_lt}
use Rattle.field.specs.Meaning.{Meaning}
use Rattle.field.specs.Symbols.{all_below}
use Rattle.code.specs.Shape.{Shape}
use Rattle.code.specs.Words.{Near}

-- whether the code is one of the field, and the word and its erasures are of the code, or the topmost row that says otherwise
abbrev pub fitting_erased : Meaning → Shape → List Bool → List ℕ → Result (Unit {0}) ℕ
fitting_erased f c erased w =
    cond (nat_lt f.m c.n) (Err 3)
    (cond (nat_le f.m c.first) (Err 4)
    (cond (not (length w == c.n)) (Err 7)
    (cond (not (length erased == c.n)) (Err 8)
    (cond (not (all_below f.q w)) (Err 10)
    (Ok tt)))))

-- correct met the word w and left v; a is its answer, a refusal by its number
pub record Corrected (f : Meaning) (c : Shape) (erased : List Bool) (w : List ℕ) (a : Result (Unit {0}) ℕ) (v : List ℕ) : Type 0 where
  -- a call that does not fit is refused by its row, and any other is accepted or refused by row 12
  pub rows : (k : ℕ) → fitting_erased f c erased w ≡ Err k → a ≡ Err k
  pub answers : fitting_erased f c erased w ≡ Ok tt → (a ≡ Ok tt) ⊎ (a ≡ Err 12)
  -- row 12: no codeword is in reach
  pub none : a ≡ Err 12 → (u : List ℕ) → Near f c erased w u → ⊥
  -- accepted: the word is now a codeword in reach of what it was, and every other codeword is out of reach
  pub near : a ≡ Ok tt → Near f c erased w v
  pub only : a ≡ Ok tt → (u : List ℕ) → Near f c erased w u → u ≡ v
  -- refused: the word is as it was
  pub kept : (k : ℕ) → a ≡ Err k → v ≡ w
