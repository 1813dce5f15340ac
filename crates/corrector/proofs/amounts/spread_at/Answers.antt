use Rattle.std.proofs.Common.{◌≡◌, ◌+◌, sym, subst}
use Rattle.corrector.proofs.Mending.{Spreading, spreading_on, spreading_off, spreading_all}
use Rattle.corrector.proofs.amounts.spread_at.Goals as goal
use Rattle.corrector.proofs.amounts.spread_at.Goals.{then-l-k, else-l-k}

pub loop-l-preserved : goal.loop-l-preserved
loop-l-preserved g c =
    let field = c.args.field.now in
    let f = g.F.Field.means field in
    let l = g.met.F.Field.lawful field in
    let turn : f.m ≡ g.row.M = g.met.F.Fixed.turn field in
    let places = c.args.places.now in
    let i = c.loop-l.l-index in
    let k = c.args.k in
    elim c.if-l-k.branch [
      | then-l-k w ↦ subst (Spreading f places k (i + 1)) (sym w.product-is)
          (spreading_on f l places k i c.loop-l.product c.loop-l-test.true c.loop-l.invariant g.row.M w.power.result w.opposite.result w.sum-gap.result w.product-product.result
          turn w.if-l-k.true w.power.ensures
          w.opposite.ensures.within w.sum-gap.ensures.within w.product-product.ensures.within)
      | else-l-k w ↦ subst (Spreading f places k (i + 1)) (sym w.product-is)
          (spreading_off f l places k i c.loop-l.product c.loop-l-test.true c.loop-l.invariant w.if-l-k.false)
    ]

pub returns : goal.returns
returns g c = spreading_all (g.F.Field.means c.args.field.now) c.args.places.now c.args.k c.loop-l.l-index c.loop-l.product c.loop-l-test.false c.loop-l.invariant
