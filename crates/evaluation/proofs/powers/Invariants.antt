use Rattle.evaluation.proofs.Powering.{Powering}
use Rattle.evaluation.proofs.powers.Given as goal

abbrev pub invariant-loop-x : goal.invariant-loop-x
invariant-loop-x g l = Powering (g.F.Field.means l.field) l.start l.step l.x-index l.e l.out
