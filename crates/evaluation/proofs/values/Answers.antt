use Rattle.std.proofs.Common.{◌≡◌, length, subst, arith}
use Rattle.evaluation.proofs.Valuing.{Valuing, reading_none, reading_more, valuing_all}
use Rattle.evaluation.proofs.values.Goals as goal

pub loop-c-init : goal.loop-c-init
loop-c-init g c =
    let left = c.into_iter-c-iterator.result.iter.rest.now in
    let e : left ≡ c.args.polynomial.now = cc in
    reading_none (g.F.Field.means c.args.field.now) c.args.polynomial.now c.args.points.now c.clear.new.row left e c.clear.ensures.done

pub loop-c-preserved : goal.loop-c-preserved
loop-c-preserved g c =
    reading_more (g.F.Field.means c.args.field.now) c.args.polynomial.now c.args.points.now c.clear.new.row c.loop-c.out c.advance.new.row
    c.loop-c.c-iterator.iter.rest.now c.next.new.self.iter.rest.now c.in-Some.c.now c.in-Some.ensures.steps (omega arith) c.loop-c.invariant c.advance.ensures

pub returns : goal.returns
returns g c =
    let field = c.args.field.now in
    let f = g.F.Field.means field in
    let w = c.args.polynomial.now in
    let points = c.args.points.now in
    let start = c.clear.new.row in
    let e : length c.loop-c.c-iterator.iter.rest.now ≡ 0 = c.in-None.ensures.steps.0 in
    valuing_all f (g.met.F.Field.lawful field) w points c.args.out.now start c.loop-c.out c.clear.ensures (omega arith) (subst (Valuing f w points start c.loop-c.out) e c.loop-c.invariant.1)
