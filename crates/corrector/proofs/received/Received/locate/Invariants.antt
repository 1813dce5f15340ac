use Rattle.corrector.specs.MendSteps.{Placed}
use Rattle.corrector.proofs.received.Received.locate.Given as goal

abbrev pub invariant-loop-i : goal.invariant-loop-i
invariant-loop-i g l = Placed (g.F.Field.means l.self.over.field.now) l.self.erased.now l.pair.locator.now l.i l.places.items l.errors
