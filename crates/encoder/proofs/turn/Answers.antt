use Rattle.std.proofs.Common.{refl, arith}
use Rattle.encoder.proofs.Turns.{turning_more, turned_all}
use Rattle.encoder.proofs.turn.Goals as goal

pub loop-i-preserved : goal.loop-i-preserved
loop-i-preserved g c =
    let field = c.args.field.now in
    let a = c.args in
    let r = c.requires in
    turning_more (g.F.Field.means field) (g.met.F.Field.lawful field) a.c r.factor a.from.now a.to.now r.symbols r.held c.loop-i.to c.loop-i.i c.loop-i.below _ c.multiply_add.result
    (omega arith) c.loop-i.invariant refl c.multiply_add.ensures

pub returns : goal.returns
returns g c =
    let field = c.args.field.now in
    let a = c.args in
    let r = c.requires in
    turned_all (g.F.Field.means field) (g.met.F.Field.lawful field) a.c r.factor a.from.now a.to.now r.symbols r.held c.loop-i.to c.loop-i.i c.loop-i.below (omega arith) r.some c.loop-i.invariant
