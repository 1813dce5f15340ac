use Rattle.std.proofs.Common.{◌≤◌}
use Rattle.code.specs.Shape.{shape}
use Rattle.encoder.proofs.Dividing.{Dividing}
use Rattle.encoder.proofs.divide.Given as goal

-- the places from i on are taken off
abbrev pub invariant-loop-i : goal.invariant-loop-i
invariant-loop-i g l = ((shape l.over.code).checks ≤ l.i) × Dividing (g.F.Field.means l.over.field.now) (shape l.over.code).first (shape l.over.code).checks l.i l.initial.row l.row
