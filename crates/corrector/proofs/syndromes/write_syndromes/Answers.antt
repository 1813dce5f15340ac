use Rattle.std.proofs.Common.{◌≡◌, ℕ, ◌+◌, ◌<◌, length, ap, ◌∙◌, arith}
use Rattle.field.specs.Sums.{weighed}
use Rattle.code.specs.Shape.{shape}
use Rattle.code.specs.Words.{check_sum}
use Rattle.corrector.proofs.Valued.{valued}
use Rattle.corrector.proofs.RowTurns.{syndrome_more}
use Rattle.corrector.proofs.syndromes.write_syndromes.Goals as goal

pub loop-j-preserved : goal.loop-j-preserved
loop-j-preserved g c =
    let field = c.args.over.now.field.now in
    let f = g.F.Field.means field in
    let sh = shape c.args.over.now.code in
    let w = c.args.word.now in
    let n = c.loop-j.j in
    let S = c.loop-j.syndromes in
    let is : c.value.result ≡ check_sum f sh w n =
    valued f g.row.Q (g.met.F.Fixed.size field) w c.requires.symbols (c.first_root.result + n) c.value.result c.value.ensures ∙ ap (λ (b : ℕ). weighed f w (b + n)) c.first_root.ensures in
    syndrome_more f sh w S n c.value.result (omega (arith, c.loop-j.auto.syndromes, c.loop-j-test.true)) c.loop-j.invariant is
