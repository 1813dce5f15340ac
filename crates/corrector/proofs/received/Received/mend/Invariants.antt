use Rattle.code.specs.Shape.{shape}
use Rattle.corrector.proofs.Mending.{Mending}
use Rattle.corrector.proofs.received.Received.mend.Given as goal

abbrev pub invariant-loop-k : goal.invariant-loop-k
invariant-loop-k g l = Mending (g.F.Field.means l.self.over.field.now) (shape l.self.over.code) l.pair.evaluator.now l.pair.locator.now l.places l.self.word.now l.k-index l.out
