-- Rows of numbers, and when each is a symbol below q.
use Rattle.std.specs.Prelude.{ℕ, ◌<◌, Bool, cond, List, [], ◌∷◌, length, nat_lt, slice_index}
use Rattle.std.specs.List.{list_all}

-- whether each number of the row is below q
abbrev pub all_below : ℕ → List ℕ → Bool
all_below q xs = list_all (λ x. nat_lt x q) xs

-- each number of the row is below q
abbrev pub Symbols : ℕ → List ℕ → Type 0
Symbols q xs = (i : ℕ) → i < length xs → slice_index xs i < q

-- the same of every place, where a row is 0 past its end
abbrev pub Within : ℕ → List ℕ → Type 0
Within q xs = (i : ℕ) → slice_index xs i < q

-- the row with 0 in place of each number that is no symbol
abbrev pub known : ℕ → List ℕ → List ℕ
known q [] = []
known q (x ∷ xs) = cond (nat_lt x q) x 0 ∷ known q xs
