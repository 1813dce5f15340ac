use Rattle.evaluation.proofs.Rounding.{Rounding}
use Rattle.evaluation.proofs.value.Given as goal

abbrev pub invariant-loop-x : goal.invariant-loop-x
invariant-loop-x g l = Rounding (g.F.Field.means l.field) l.polynomial l.t l.x-index l.total l.e
