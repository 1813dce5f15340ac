use Rattle.std.proofs.Common.{◌≡◌, ◌*◌, ◌<◌, not, eqb, get_or, None}
use Rattle.field.specs.Meaning.{pow}
use Rattle.field.specs.Sums.{sum_of}
use Rattle.code.specs.Shape.{shape}
use Rattle.code.specs.Words.{lowest, check_sum}
use Rattle.code.proofs.over.FieldCode.failing.Given as goal

-- no root before j fails
abbrev pub invariant-loop-j : goal.invariant-loop-j
invariant-loop-j g l =
    let f = g.F.Field.means l.self.field.now in
    lowest l.j (λ j. not (eqb (check_sum f (shape l.self.code) l.word j) 0)) ≡ None

abbrev pub invariant-loop-i : goal.invariant-loop-i
invariant-loop-i g l =
    let f = g.F.Field.means l.self.field.now in
    (l.total < f.q) × (l.total ≡ sum_of f l.i (λ i. f.prod (get_or l.word i 0) (pow f f.a (i * l.t))))
