use Rattle.std.proofs.Common.{◌<◌, get_or, ap, ◌∙◌}
use Rattle.field.proofs.Lifting.{coefficient_in}
use Rattle.solver.proofs.RowProducts.{coefficient_cut}
use Rattle.solver.proofs.steps.Congruence.discrepancy.Goals as goal

pub returns : goal.returns
returns g c =
    let field = c.args.self.now.field.now in
    let f = g.F.Field.means field in
    let w = g.met.F.Field.lawful field in
    let p = c.args.pair.now in
    let h = c.requires.pair in
    let p_is = c.product_at-product.ensures ∙ coefficient_cut f w c.args.k p.size p.right c.args.self.now.g.now h.right_short in
    let p_in : c.product_at-product.result < f.q = rw p_is (coefficient_in f w c.args.k p.right c.args.self.now.g.now h.symbols.right_in c.args.self.now.row) in
    let o = c.opposite.ensures.within p_in in
    let o_in : c.opposite.result < f.q = rw o (w.opp_in _ p_in) in
    c.sum.ensures.within (h.symbols.left_in _) o_in ∙ ap (f.sum (get_or p.left c.args.k 0)) (o ∙ ap f.opp p_is)
