use Rattle.std.proofs.Common.{rules}
use Rattle.code.specs.Shape.{shape}
use Rattle.code.proofs.Lowest.{codeword_no_failing}
use Rattle.encoder.specs.Encodes.{Encodes}
use Rattle.encoder.proofs.encode.Goals as goal

pub returns-clause-tests : goal.returns-clause-tests
returns-clause-tests g c =
    let f = g.F.Field.means c.args.field.now in
    let code = shape c.args.code.now in
    let made : Encodes f code c.args.word.now c.lay_checks.new.word = search rules in
    λ _. codeword_no_failing f code c.lay_checks.new.word made.carries.codeword
