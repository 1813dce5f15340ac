use Rattle.encoder.proofs.Turns.{Turning}
use Rattle.encoder.proofs.multiply.Given as goal

abbrev pub invariant-loop-x : goal.invariant-loop-x
invariant-loop-x g l = Turning (g.F.Field.means l.field) l.c l.x-index l.below l.initial.g l.initial.g l.g
