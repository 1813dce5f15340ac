-- What a table of powers or of logarithms holds. Only private contracts cite this.
use Rattle.std.specs.Prelude.{◌≡◌, ℕ, zero, suc, Bool, true, ◌&&◌, List, [], ◌∷◌, length, ◌==◌, nat_lt, slice_index}
use Rattle.field.specs.Meaning.{Meaning}

-- n numbers from x on, each a times the one before
abbrev pub climb : Meaning → ℕ → ℕ → List ℕ
climb f zero x = []
climb f (suc n) x = x ∷ climb f n (f.prod f.a x)

-- one whole turn: a to the 0, 1, .. and m - 1
unfoldable pub turn : Meaning → List ℕ
turn f = climb f f.m 1

-- whether each number of ls is a place at which ps holds x, x + 1, and so on
abbrev pub locates : List ℕ → ℕ → List ℕ → Bool
locates ps x [] = true
locates ps x (l ∷ ls) = nat_lt l (length ps) && (slice_index ps l == x && locates ps (suc x) ls)

-- each number of ls is the logarithm of 1, 2, and so on: the power of a that gives it
unfoldable pub Logarithms : Meaning → List ℕ → Type 0
Logarithms f ls = locates (turn f) 1 ls ≡ true
