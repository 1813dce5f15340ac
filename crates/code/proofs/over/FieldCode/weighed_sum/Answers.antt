use Rattle.std.proofs.Common.{◌≡◌, ℕ, ◌*◌, ◌%◌, ◌<◌, length, get_or, sym, refl, ap, ◌∙◌, subst, arith}
use Rattle.field.specs.Meaning.{pow}
use Rattle.field.specs.Sums.{sum_of}
use Rattle.field.proofs.Powers.{weighed_more}
use Rattle.field.proofs.Symbols.{symbol_at}
use Rattle.code.proofs.over.FieldCode.weighed_sum.Goals as goal

pub nonzero_rem-e : goal.nonzero_rem-e
nonzero_rem-e g c =
    let l = (g.met.F.Field.lawful c.args.self.now.field.now).m_low in
    let t = g.met.F.Fixed.turn c.args.self.now.field.now in
    omega arith

pub overflow_cast-e : goal.overflow_cast-e
overflow_cast-e g c =
    let low = (g.met.F.Field.lawful c.args.self.now.field.now).m_low in
    let l = (g.met.F.Field.lawful c.args.self.now.field.now).m_high in
    let h = (g.met.F.Field.lawful c.args.self.now.field.now).q_high in
    let t = g.met.F.Fixed.turn c.args.self.now.field.now in
    omega arith

pub loop-i-init : goal.loop-i-init
loop-i-init g c =
    let l = g.met.F.Field.lawful c.args.self.now.field.now in
    (omega (arith, l.q_low), refl)

pub loop-i-preserved : goal.loop-i-preserved
loop-i-preserved g c =
    let f = g.F.Field.means c.args.self.now.field.now in
    let l = g.met.F.Field.lawful c.args.self.now.field.now in
    let size : f.q ≡ g.row.Q = g.met.F.Fixed.size c.args.self.now.field.now in
    let turn : f.m ≡ g.row.M = g.met.F.Fixed.turn c.args.self.now.field.now in
    let ws = c.args.word.now in
    let i = c.loop-i.i in
    let w_in : get_or ws i 0 < f.q = subst (λ (n : ℕ). get_or ws i 0 < n) (sym size) (symbol_at g.row.Q ws i c.requires.symbols c.loop-i-test.true) in
    weighed_more f l ws c.args.t i c.loop-i.total c.power.result c.product.result c.sum-total.result
    w_in c.loop-i.invariant
    (c.power.ensures ∙ ap (λ (n : ℕ). pow f f.a (i * c.args.t % n)) (sym turn))
    (λ h. c.product.ensures.within w_in h)
    (λ h. c.sum-total.ensures.within c.loop-i.invariant.0 h)

pub returns : goal.returns
returns g c =
    let e : c.loop-i.i ≡ length c.args.word.now = omega arith in
    let f = g.F.Field.means c.args.self.now.field.now in
    c.loop-i.invariant.1 ∙ ap (λ n. sum_of f n (λ k. f.prod (get_or c.args.word.now k 0) (pow f f.a (k * c.args.t)))) e
