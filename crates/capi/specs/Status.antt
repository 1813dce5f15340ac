-- The status that a call answers: 0 where it is accepted, else the number of its refusal.
use Rattle.std.specs.Prelude.{ℕ, zero, suc, Ok, Err, Result}

-- the answer that a status tells
abbrev pub answer : ℕ → Result (Unit {0}) ℕ
answer zero = Ok tt
answer (suc k) = Err (suc k)
