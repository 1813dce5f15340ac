use Rattle.std.proofs.Common.{◌≡◌, refl}
use Rattle.field.specs.Tables.{turn}
use Rattle.field.proofs.Tables.{power_round}
use Rattle.binary.specs.Polynomials.{shifted, product}
use Rattle.f16.specs.Sixteen.{sixteen}
use Rattle.f16.specs.SixteenLemmas.{sixteen_laws}
use Rattle.f16.specs.declared.TheConstants.{POWERS}
use Rattle.f16.proofs.F16Field.power.Goals as goal

-- the table at all of it: antt computes the powers and compares them
table : POWERS ≡ turn sixteen
unfolding turn shifted product
table = refl

pub returns : goal.returns
returns c = power_round sixteen sixteen_laws POWERS table c.args.i c.from.result c.from-2.result c.from.ensures c.from-2.ensures
