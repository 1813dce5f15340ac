use Rattle.evaluation.proofs.Valuing.{Reading}
use Rattle.evaluation.proofs.values.Given as goal

abbrev pub invariant-loop-c : goal.invariant-loop-c
invariant-loop-c g l = Reading (g.F.Field.means l.field) l.polynomial l.points l.initial.out l.out l.c-iterator.iter.rest.now
