-- What the loop keeps.
use Rattle.std.proofs.Common.{vec_items}
use Rattle.text.proofs.Turns.{Held}
use Rattle.text.proofs.line.read_numbers.Given as goal

abbrev pub invariant-loop-b : goal.invariant-loop-b
invariant-loop-b l = Held l.rest (vec_items l.numbers) l.value l.digits l.b-index
