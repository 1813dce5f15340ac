use Rattle.field.specs.Symbols.{Within}
use Rattle.corrector.specs.RowSteps.{Modified}
use Rattle.corrector.proofs.syndromes.modify.Given as goal

abbrev pub invariant-loop-i : goal.invariant-loop-i
invariant-loop-i g l = Modified (g.F.Field.means l.field) l.erased l.i l.initial.row l.row × Within g.row.Q l.row
