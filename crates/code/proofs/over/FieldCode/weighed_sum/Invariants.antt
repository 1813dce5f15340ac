use Rattle.std.proofs.Common.{◌≡◌, ◌*◌, ◌<◌, get_or}
use Rattle.field.specs.Meaning.{pow}
use Rattle.field.specs.Sums.{sum_of}
use Rattle.code.proofs.over.FieldCode.weighed_sum.Given as goal

abbrev pub invariant-loop-i : goal.invariant-loop-i
invariant-loop-i g l =
    let f = g.F.Field.means l.self.field.now in
    (l.total < f.q) × (l.total ≡ sum_of f l.i (λ i. f.prod (get_or l.word i 0) (pow f f.a (i * l.t))))
