use Rattle.std.proofs.Common.{◌≡◌, ℕ, suc, ◌%◌, sym, ap, subst, add-one, arith}
use Rattle.evaluation.proofs.Rounding.{Rounding, rounding_none, rounding_ahead, rounding_back, rounding_all}
use Rattle.evaluation.proofs.value.Goals as goal
use Rattle.evaluation.proofs.value.Goals.{then-e, else-e}

pub nonzero_rem-step : goal.nonzero_rem-step
nonzero_rem-step g c = let field = c.args.field.now in omega (arith, g.met.F.Fixed.turn field, (g.met.F.Field.lawful field).m_low)

pub loop-x-init : goal.loop-x-init
loop-x-init g c = let field = c.args.field.now in rounding_none (g.F.Field.means field) (g.met.F.Field.lawful field) c.args.polynomial.now c.args.t

pub loop-x-preserved : goal.loop-x-preserved
loop-x-preserved g c =
    let field = c.args.field.now in
    let f = g.F.Field.means field in
    let l = g.met.F.Field.lawful field in
    let turn : f.m ≡ g.row.M = g.met.F.Fixed.turn field in
    let row = c.args.polynomial.now in
    let t = c.args.t in
    let n = c.loop-x.x-index in
    let e = c.loop-x.e in
    let by = t % g.row.M in
    let by_is : by ≡ t % f.m = ap (λ (m : ℕ). t % m) (sym turn) in
    let within = c.product.ensures.within in
    let P : ℕ → Type 0 = λ e'. Rounding f row t (suc n) c.sum-total.result e' in
    rw (add-one n) (elim c.if-e.branch [
      | then-e w ↦ subst P (let u = turn in let s = w.e-is in let far = w.if-e.true in omega arith)
          (rounding_back f l row t n c.loop-x.total e by c.loop-x.invariant by_is c.power.result c.product.result c.sum-total.result
          c.power.ensures within c.product.ensures.left (λ h. c.sum-total.ensures.within c.loop-x.invariant.inside h) (omega (arith, turn, w.if-e.true)))
      | else-e w ↦ subst P (let s = w.e-is in omega arith)
          (rounding_ahead f l row t n c.loop-x.total e by c.loop-x.invariant by_is c.power.result c.product.result c.sum-total.result
          c.power.ensures within c.product.ensures.left (λ h. c.sum-total.ensures.within c.loop-x.invariant.inside h) (omega (arith, turn, w.if-e.false)))
    ])

pub returns : goal.returns
returns g c =
    let field = c.args.field.now in
    rounding_all (g.F.Field.means field) (g.met.F.Field.lawful field) c.args.polynomial.now c.args.t c.loop-x.x-index c.loop-x.total c.loop-x.e (omega arith) c.loop-x.invariant
