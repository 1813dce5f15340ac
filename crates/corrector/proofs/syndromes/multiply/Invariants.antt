use Rattle.corrector.proofs.RowTurns.{Multiplying}
use Rattle.corrector.proofs.syndromes.multiply.Given as goal

abbrev pub invariant-loop-symbol : goal.invariant-loop-symbol
invariant-loop-symbol g l = Multiplying (g.F.Field.means l.field) l.x l.symbol-index l.below l.initial.row l.row
