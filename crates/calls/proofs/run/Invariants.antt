use Rattle.std.proofs.Common.{◌≡◌, map}
use Rattle.bay.specs.Held.{held}
use Rattle.calls.specs.Runs.{asked, told}
use Rattle.calls.specs.Steps.{step, runs}
use Rattle.calls.proofs.Stepping.{whole}
use Rattle.calls.proofs.run.Given as goal

abbrev pub invariant-loop-line : goal.invariant-loop-line
invariant-loop-line g l =
    let m = g.F.Field.means l.initial.bay.field in
    (l.bay.field ≡ l.initial.bay.field)
    × (whole (λ x. asked x.call) told (step m) (held l.bay) l.lines l.line-index
    ≡ runs m (held l.initial.bay) (map (λ x. asked x.call) l.initial.lines))
