use Rattle.corrector.proofs.Mending.{Spreading}
use Rattle.corrector.proofs.amounts.spread_at.Given as goal

abbrev pub invariant-loop-l : goal.invariant-loop-l
invariant-loop-l g l = Spreading (g.F.Field.means l.field) l.places l.k l.l-index l.product
