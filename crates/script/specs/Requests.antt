-- Which call a line of the bench asks for, and the numbers that its answer shows.
use Rattle.std.specs.Prelude.{ℕ, ◌+◌, ◌/◌, Bool, cond, List, [], ◌∷◌, length, replicate, Some, None, codes, Option, ◌==◌, slice_index}
use Prim.Native.String.{String}
use Rattle.calls.specs.Steps.{Asked, make, load, put, mark, clear, encode, correct, test, read, report}

-- whether the byte is this letter
abbrev pub is : String → ℕ → Bool
is letter byte = byte == slice_index (codes letter) 0

-- a call that takes no number, one, two or three; nothing where the count is another
abbrev pub with_none : Asked → List ℕ → Option Asked
with_none a [] = Some a
with_none a (x ∷ xs) = None

abbrev pub with_one : (ℕ → Asked) → List ℕ → Option Asked
with_one a [] = None
with_one a (x ∷ []) = Some (a x)
with_one a (x ∷ (y ∷ ys)) = None

abbrev pub with_two : (ℕ → ℕ → Asked) → List ℕ → Option Asked
with_two a [] = None
with_two a (x ∷ []) = None
with_two a (x ∷ (y ∷ [])) = Some (a x y)
with_two a (x ∷ (y ∷ (z ∷ zs))) = None

abbrev pub with_three : (ℕ → ℕ → ℕ → Asked) → List ℕ → Option Asked
with_three a [] = None
with_three a (x ∷ []) = None
with_three a (x ∷ (y ∷ [])) = None
with_three a (x ∷ (y ∷ (z ∷ []))) = Some (a x y z)
with_three a (x ∷ (y ∷ (z ∷ (u ∷ us)))) = None

-- a load without marks: the map has a byte for each eight symbols, and no bit set
abbrev pub unmarked : List ℕ → Asked
unmarked w = load w (replicate ((length w + 7) / 8) 0)

-- the call that a letter and its numbers ask for; a buffer has room for the largest word, or the largest report
abbrev pub requested : ℕ → List ℕ → Option Asked
requested byte ns =
    cond (is "N" byte) (with_three make ns)
    (cond (is "L" byte) (Some (unmarked ns))
    (cond (is "P" byte) (with_two put ns)
    (cond (is "M" byte) (with_one mark ns)
    (cond (is "X" byte) (with_none clear ns)
    (cond (is "E" byte) (with_none encode ns)
    (cond (is "C" byte) (with_none correct ns)
    (cond (is "T" byte) (with_none test ns)
    (cond (is "W" byte) (with_none (read (replicate 928 0)) ns)
    (cond (is "Q" byte) (with_none (report (replicate 1026 0)) ns)
    None)))))))))
