-- The bytes of an answer line.
use Rattle.std.specs.Prelude.{ℕ, List, [], ◌∷◌, ◌++◌, codes, decimal, Ok, Err, Result}
use Rattle.std.specs.Borrow.{Bor}
use Rattle.std.specs.List.{flat_map}
use Rattle.code.specs.Refusals.{number}
use Rattle.code.specs.declared.Refusal.{Refusal}

-- one space, and the number in decimals
abbrev pub spaced : ℕ → List ℕ
spaced x = 32 ∷ decimal x

-- the line for what asks for no call
abbrev pub question : List ℕ
question = codes "?" ++ 10 ∷ []

-- the line for an accepted call, with the numbers answered
abbrev pub accepting : List ℕ → List ℕ
accepting numbers = (codes "ok" ++ flat_map spaced numbers) ++ 10 ∷ []

-- the line for a call turned down with the number k
abbrev pub refusing : ℕ → List ℕ
refusing k = (codes "no" ++ spaced k) ++ 10 ∷ []

-- the line for a reply: a call was accepted, with the numbers answered, or refused
abbrev pub answer : Result (Bor (List ℕ)) Refusal → List ℕ
answer (Ok numbers) = accepting numbers.now
answer (Err why) = refusing (number why)
