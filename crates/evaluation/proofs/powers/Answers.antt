use Rattle.std.proofs.Common.{◌≡◌, ℕ, suc, ◌%◌, ◌<◌, set, sym, ap, subst, mod-lt, add-one, arith}
use Rattle.evaluation.proofs.Powering.{Powering, powering_none, powering_ahead, powering_round}
use Rattle.evaluation.proofs.powers.Goals as goal
use Rattle.evaluation.proofs.powers.Goals.{then-e, else-e}

pub nonzero_rem-by : goal.nonzero_rem-by
nonzero_rem-by g c = let field = c.args.field.now in omega (arith, g.met.F.Fixed.turn field, (g.met.F.Field.lawful field).m_low)

pub nonzero_rem-e : goal.nonzero_rem-e
nonzero_rem-e g c = let field = c.args.field.now in omega (arith, g.met.F.Fixed.turn field, (g.met.F.Field.lawful field).m_low)

pub loop-x-init : goal.loop-x-init
loop-x-init g c =
    let field = c.args.field.now in
    let f = g.F.Field.means field in
    let l = g.met.F.Field.lawful field in
    let turn : f.m ≡ g.row.M = g.met.F.Fixed.turn field in
    let start = c.args.start in
    let pos : 0 < f.m = omega (arith, l.m_low) in
    let is : start % g.row.M ≡ start % f.m = ap (λ (m : ℕ). start % m) (sym turn) in
    powering_none f l start c.args.step c.args.out.now (start % g.row.M) is (subst (λ (n : ℕ). n < f.m) (sym is) (mod-lt start pos))

pub loop-x-preserved : goal.loop-x-preserved
loop-x-preserved g c =
    let field = c.args.field.now in
    let f = g.F.Field.means field in
    let l = g.met.F.Field.lawful field in
    let turn : f.m ≡ g.row.M = g.met.F.Fixed.turn field in
    let start = c.args.start in
    let step = c.args.step in
    let n = c.loop-x.x-index in
    let e = c.loop-x.e in
    let by = step % g.row.M in
    let row = c.loop-x.out in
    let x = c.power.result in
    let pos : 0 < f.m = omega (arith, l.m_low) in
    let by_is : by ≡ step % f.m = ap (λ (m : ℕ). step % m) (sym turn) in
    let by_in : by < f.m = subst (λ (k : ℕ). k < f.m) (sym by_is) (mod-lt step pos) in
    let P : ℕ → Type 0 = λ e'. Powering f start step (suc n) e' (set row n x) in
    rw (add-one n) (elim c.if-e.branch [
      | then-e w ↦ subst P (let t = turn in let s = w.e-is in let far = w.if-e.true in omega arith)
          (powering_round f l start step n e by x row (omega arith) c.loop-x.invariant by_is c.power.ensures by_in (omega (arith, turn, w.if-e.true)))
      | else-e w ↦ subst P (let s = w.e-is in omega arith)
          (powering_ahead f l start step n e by x row (omega arith) c.loop-x.invariant by_is c.power.ensures (omega (arith, turn, w.if-e.false)))
    ])
