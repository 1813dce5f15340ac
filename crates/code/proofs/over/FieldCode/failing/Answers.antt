use Rattle.std.proofs.Common.{◌≡◌, ℕ, ◌+◌, ◌*◌, ◌%◌, ◌<◌, not, eqb, length, get_or, sym, ap, ◌∙◌, subst, arith, eq-eqb, ne_eqb}
use Rattle.field.specs.Meaning.{pow}
use Rattle.field.specs.Sums.{sum_of}
use Rattle.field.proofs.Powers.{weighed_more}
use Rattle.field.proofs.Symbols.{symbol_at}
use Rattle.code.specs.Shape.{shape}
use Rattle.code.specs.Words.{check_sum}
use Rattle.code.proofs.Lowest.{lowest_start, lowest_more, lowest_here}
use Rattle.code.proofs.over.FieldCode.failing.Goals as goal

pub loop-j-init : goal.loop-j-init
loop-j-init g c = lowest_start _

pub loop-i-preserved : goal.loop-i-preserved
loop-i-preserved g c =
    let f = g.F.Field.means c.args.self.now.field.now in
    let l = g.met.F.Field.lawful c.args.self.now.field.now in
    let size : f.q ≡ g.row.Q = g.met.F.Fixed.size c.args.self.now.field.now in
    let turn : f.m ≡ g.row.M = g.met.F.Fixed.turn c.args.self.now.field.now in
    let ws = c.args.word.now in
    let i = c.loop-i.i in
    let t = c.args.self.now.code.first + c.loop-j.j in
    let w_in : get_or ws i 0 < f.q = subst (λ (n : ℕ). get_or ws i 0 < n) (sym size) (symbol_at g.row.Q ws i c.requires.symbols c.loop-i-test.true) in
    weighed_more f l ws t i c.loop-i.total c.power.result c.product.result c.sum-total.result
    w_in c.loop-i.invariant
    (c.power.ensures ∙ ap (λ (n : ℕ). pow f f.a (i * t % n)) (sym turn))
    (λ h. c.product.ensures.within w_in h)
    (λ h. c.sum-total.ensures.within c.loop-i.invariant.0 h)

pub loop-j-preserved : goal.loop-j-preserved
loop-j-preserved g c =
    let f = g.F.Field.means c.args.self.now.field.now in
    let sh = shape c.args.self.now.code in
    let ws = c.args.word.now in
    let e : c.loop-i.i ≡ length ws = omega arith in
    let zip : c.loop-i.total ≡ 0 = omega arith in
    let is : check_sum f sh ws c.loop-j.j ≡ 0 = ap (λ n. sum_of f n (λ k. f.prod (get_or ws k 0) (pow f f.a (k * (sh.first + c.loop-j.j))))) (sym e) ∙ sym c.loop-i.invariant.1 ∙ zip in
    lowest_more (λ j. not (eqb (check_sum f sh ws j) 0)) c.loop-j.j c.loop-j.invariant (ap not (eq-eqb _ 0 is))

pub returns-then-total-ne0 : goal.returns-then-total-ne0
returns-then-total-ne0 g c =
    let f = g.F.Field.means c.args.self.now.field.now in
    let sh = shape c.args.self.now.code in
    let ws = c.args.word.now in
    let e : c.loop-i.i ≡ length ws = omega arith in
    let is : c.loop-i.total ≡ check_sum f sh ws c.loop-j.j = c.loop-i.invariant.1 ∙ ap (λ n. sum_of f n (λ k. f.prod (get_or ws k 0) (pow f f.a (k * (sh.first + c.loop-j.j))))) e in
    sym (lowest_here (λ j. not (eqb (check_sum f sh ws j) 0)) c.loop-j.j sh.checks c.loop-j.invariant (ap not (ne_eqb _ 0 (λ z. c.if-total-ne0.true (is ∙ z)))) c.loop-j-test.true)
