use Rattle.std.proofs.Common.{◌-◌, length, drop}
use Rattle.code.specs.Shape.{shape}
use Rattle.encoder.proofs.Holding.{Holding}
use Rattle.encoder.proofs.lay_checks.Given as goal

-- the message is taken in from its end, as far as it was gone through
abbrev pub invariant-loop-x : goal.invariant-loop-x
invariant-loop-x g l =
    let code = shape l.over.code in
    let message = drop code.checks l.fn.word in
    Holding (g.F.Field.means l.over.field.now) code.first code.checks (length message - length l.yielded) message l.register
