use Rattle.std.proofs.Common.{is_ok, sym, subst, arith}
use Rattle.field.specs.Symbols.{Within}
use Rattle.code.specs.Shape.{shape}
use Rattle.errata.specs.Pieces.{located}
use Rattle.corrector.specs.MendSteps.{Mended}
use Rattle.corrector.proofs.Placing.{passing_in}
use Rattle.corrector.proofs.Deciding.{many, mended_by}
use Rattle.corrector.proofs.received.Received.attempt.Goals as goal

pub mend-requires : goal.mend-requires
mend-requires g c =
    let self = c.args.self.now in
    let sh = shape self.over.code in
    let ps = c.locate-located.result.places.items in
    let p = located (g.F.Field.means self.over.field.now) self.erased.now c.args.pair.now.locator.now in
    let inside : Within sh.n ps = subst (Within sh.n) (sym c.locate-located.ensures.is) (passing_in sh.n p sh.n (omega arith) (omega (arith, self.over.code.least))) in
    (omega arith, (omega arith, (c.requires.room, subst (Within sh.n) (sym c.as_slice.ensures.value) inside)))

pub returns-then-located-s : goal.returns-then-located-s
returns-then-located-s g c =
    let self = c.args.self.now in
    many (g.F.Field.means self.over.field.now) (shape self.over.code) self.erased.now c.args.pair.now.evaluator.now c.args.pair.now.locator.now self.word.now
    c.locate-located.result.places.items c.locate-located.result.errors c.args.s c.requires.number c.locate-located.ensures
    c.args.out.now (omega (arith, c.checks.ensures, c.if-located-s.true))

pub returns : goal.returns
returns g c =
    let self = c.args.self.now in
    let f = g.F.Field.means self.over.field.now in
    let sh = shape self.over.code in
    let a = c.args.pair.now.evaluator.now in
    let b = c.args.pair.now.locator.now in
    mended_by f sh self.erased.now a b self.word.now
    c.locate-located.result.places.items c.locate-located.result.errors c.args.s c.requires.number c.locate-located.ensures
    c.mend.new.out (is_ok c.mend.result) (omega (arith, c.checks.ensures, c.if-located-s.false))
    (subst (λ ps. Mended f sh a b ps self.word.now (is_ok c.mend.result) c.mend.new.out) c.as_slice.ensures.value c.mend.ensures)
