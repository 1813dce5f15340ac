use Rattle.encoder.proofs.Turns.{Turning}
use Rattle.encoder.proofs.turn.Given as goal

abbrev pub invariant-loop-i : goal.invariant-loop-i
invariant-loop-i g l = Turning (g.F.Field.means l.field) l.c l.i l.below l.from l.initial.to l.to
