-- The check sums of a word, all at once.
use Rattle.std.specs.Prelude.{◌≡◌, ℕ, ◌<◌, ◌≤◌, Bool, cond, not, List, length, Ok, Err, Result, ◌==◌, nat_le, nat_lt, slice_index}
use Rattle.field.specs.Meaning.{Meaning}
use Rattle.field.specs.Symbols.{all_below}
use Rattle.code.specs.Shape.{Shape}
use Rattle.code.specs.Words.{check_sum, codeword}

-- new holds the check sums of w in its first places, one for each check, and old after them
pub record Summed (f : Meaning) (c : Shape) (w old new : List ℕ) : Type 0 where
  pub done : (j : ℕ) → j < c.checks → slice_index new j ≡ check_sum f c w j
  pub rest : (j : ℕ) → c.checks ≤ j → slice_index new j ≡ slice_index old j

-- whether w is a codeword, where it is a word of the code, the code one of the field, and there is room for the check sums; or the topmost row that says otherwise
abbrev pub summing : Meaning → Shape → List ℕ → List ℕ → Result Bool ℕ
summing f c w out =
    cond (nat_lt f.m c.n) (Err 3)
    (cond (nat_le f.m c.first) (Err 4)
    (cond (not (length w == c.n)) (Err 7)
    (cond (not (all_below f.q w)) (Err 10)
    (cond (nat_lt (length out) c.checks) (Err 13)
    (Ok (codeword f c w))))))
