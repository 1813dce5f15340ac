use Rattle.std.proofs.Common.{◌≡◌, ◌-◌, take, ◌∙◌, arith, rules}
use Rattle.std.proofs.lemmas.List.{get_or_append_left}
use Rattle.field.proofs.Parts.{put_high}
use Rattle.code.specs.Shape.{shape}
use Rattle.encoder.specs.Syndromes.{Summed}
use Rattle.encoder.proofs.syndromes.Goals as goal

pub returns-clause-sums : goal.returns-clause-sums
returns-clause-sums g c =
    let out = c.args.out.now in
    let part = c.write_syndromes.new.out in
    let k = c.checks-checks.result - 0 in
    let e : c.checks-checks.result ≡ (shape c.args.code.now).checks = c.checks-checks.ensures in
    let each : Summed (g.F.Field.means c.args.field.now) (shape c.args.code.now) c.args.word.now (take k out) part = search rules in
    record {
      done = λ j h. get_or_append_left part _ 0 j (omega arith) ∙ each.done j h;
      rest = λ j h. put_high 0 k out part (omega arith) (omega arith) j (omega arith);
    }
