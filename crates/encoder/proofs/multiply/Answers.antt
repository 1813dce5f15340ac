use Rattle.std.proofs.Common.{le_refl, arith}
use Rattle.encoder.proofs.Turns.{turning_more, turned_all}
use Rattle.encoder.proofs.multiply.Goals as goal

pub loop-x-preserved : goal.loop-x-preserved
loop-x-preserved g c =
    let field = c.args.field.now in
    let old = c.args.g.now in
    let r = c.requires in
    turning_more (g.F.Field.means field) (g.met.F.Field.lawful field) c.args.c r.factor old old r.symbols r.symbols c.loop-x.g c.loop-x.x-index c.loop-x.below _ c.multiply_add.result
    (omega arith) c.loop-x.invariant (c.loop-x.invariant.1.rest _ (le_refl _)) c.multiply_add.ensures

pub returns : goal.returns
returns g c =
    let field = c.args.field.now in
    let old = c.args.g.now in
    let r = c.requires in
    turned_all (g.F.Field.means field) (g.met.F.Field.lawful field) c.args.c r.factor old old r.symbols r.symbols c.loop-x.g c.loop-x.x-index c.loop-x.below (omega arith) r.some c.loop-x.invariant
