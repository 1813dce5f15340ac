use Rattle.std.proofs.Common.{◌≡◌, refl}
use Rattle.field.specs.Tables.{turn}
use Rattle.field.proofs.Tables.{power_held}
use Rattle.binary.specs.Polynomials.{shifted, product}
use Rattle.f256.specs.Bytes.{bytes}
use Rattle.f256.specs.declared.powers.TheConstants.{POWERS}
use Rattle.f256.proofs.powers.power_of.Goals as goal

-- the table at all of it: antt computes the powers and compares them
table : POWERS ≡ turn bytes
unfolding turn shifted product
table = refl

pub returns : goal.returns
returns c = power_held bytes POWERS table c.args.i c.args.i c.from.result c.requires refl c.from.ensures
