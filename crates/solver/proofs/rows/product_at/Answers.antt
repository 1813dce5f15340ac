use Rattle.std.proofs.Common.{◌≡◌, ◌-◌, ◌<◌, length, get_or, ap, ◌∙◌, ap₂, add-one, arith}
use Rattle.std.proofs.lemmas.List.{get_or_past}
use Rattle.field.specs.Sums.{sum_of}
use Rattle.field.proofs.Lifting.{total_in}
use Rattle.solver.proofs.RowProducts.{coefficient_short}
use Rattle.solver.proofs.rows.product_at.Goals as goal

pub loop-i-preserved : goal.loop-i-preserved
loop-i-preserved g c =
    let field = c.args.field.now in
    let f = g.F.Field.means field in
    let w = g.met.F.Field.lawful field in
    let i = c.loop-i.i in
    let k = c.args.k in
    let b_in = c.requires.factor in
    let g_in = c.requires.other in
    let t_in : c.loop-i.total < f.q = rw c.loop-i.invariant (total_in f w i _ (λ n. w.prod_in _ _ (b_in n) (g_in (k - n)))) in
    let p = c.product.ensures.within (b_in i) (g_in (k - i)) in
    let p_in : c.product.result < f.q = rw p (w.prod_in _ _ (b_in i) (g_in (k - i))) in
    rw add-one (c.sum-total.ensures.within t_in p_in ∙ ap₂ f.sum c.loop-i.invariant p)

pub returns : goal.returns
returns g c =
    let field = c.args.field.now in
    let f = g.F.Field.means field in
    let w = g.met.F.Field.lawful field in
    let b = c.args.b.now in
    let e : c.loop-i.i ≡ length b = omega arith in
    let k = c.args.k in
    c.loop-i.invariant ∙ ap (λ n. sum_of f n (λ n. f.prod (get_or b n 0) (get_or c.args.g.now (k - n) 0))) e
    ∙ coefficient_short f w k (length b) b c.args.g.now c.requires.factor c.requires.other (omega (arith, c.requires.room.0)) (λ i h. get_or_past b i 0 h)
