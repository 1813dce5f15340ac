use Rattle.std.proofs.Common.{◌≡◌, ℕ, ◌<◌, false, get_or}
use Rattle.marks.specs.Marks.{bit_at}
use Rattle.marks.proofs.bytes.write_marks.Given as goal

-- the positions before pos are written
abbrev pub invariant-loop-pos : goal.invariant-loop-pos
invariant-loop-pos l = (k : ℕ) → k < l.pos → get_or l.out k false ≡ bit_at l.map k
