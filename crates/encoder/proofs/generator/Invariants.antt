use Rattle.std.proofs.Common.{◌≡◌, ◌+◌}
use Rattle.field.specs.Meaning.{pow}
use Rattle.code.specs.Shape.{shape}
use Rattle.encoder.specs.Register.{Generates}
use Rattle.encoder.proofs.generator.Given as goal

-- g has the first j roots, and the next one is at hand
abbrev pub invariant-loop-j : goal.invariant-loop-j
invariant-loop-j g l =
    let f = g.F.Field.means l.over.field.now in
    let b = (shape l.over.code).first in
    Generates f b l.j l.g × (l.root ≡ pow f f.a (b + l.j))
