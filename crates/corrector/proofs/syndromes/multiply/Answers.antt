use Rattle.std.proofs.Common.{◌≡◌, ℕ, ◌<◌, refl, sym, subst, add-one, arith}
use Rattle.field.specs.Symbols.{Within}
use Rattle.corrector.proofs.RowTurns.{multiplying_none, multiplying_more, multiplied_all}
use Rattle.corrector.proofs.syndromes.multiply.Goals as goal

pub loop-symbol-init : goal.loop-symbol-init
loop-symbol-init g c = multiplying_none _ _ _

pub loop-symbol-preserved : goal.loop-symbol-preserved
loop-symbol-preserved g c =
    let field = c.args.field.now in
    let f = g.F.Field.means field in
    let size : f.q ≡ g.row.Q = g.met.F.Fixed.size field in
    let xs = c.args.row.now in
    let x = c.args.x in
    rw (add-one c.loop-symbol.symbol-index) (multiplying_more f (g.met.F.Field.lawful field) x (subst (λ (q : ℕ). x < q) (sym size) c.requires.symbol) xs (subst (λ (q : ℕ). Within q xs) (sym size) c.requires.symbols)
    c.loop-symbol.symbol-index c.loop-symbol.below _ c.product.result c.opposite.result c.sum.result c.loop-symbol.row (omega (arith, c.loop-symbol.auto.row, c.loop-symbol-test.true)) c.loop-symbol.invariant refl
    c.product.ensures.within c.opposite.ensures.within c.sum.ensures.within)

pub returns : goal.returns
returns g c = multiplied_all _ _ c.loop-symbol.symbol-index c.loop-symbol.below _ _ (omega arith) c.loop-symbol.invariant
