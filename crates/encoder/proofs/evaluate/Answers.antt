use Rattle.std.proofs.Common.{subst, arith}
use Rattle.encoder.specs.Register.{Evaluated}
use Rattle.encoder.proofs.Summing.{evaluated}
use Rattle.encoder.proofs.evaluate.Goals as goal

pub returns : goal.returns
returns g c =
    let field = c.args.over.now.field.now in
    let f = g.F.Field.means field in
    subst (λ b. Evaluated f b c.args.remainder.now c.values.new.out) c.first_root.ensures
    (evaluated f (g.met.F.Field.lawful field) c.first_root.result c.args.remainder.now c.powers.new.out c.args.out.now c.values.new.out
    c.requires.symbols (omega arith) (omega arith) c.powers.ensures c.values.ensures)
