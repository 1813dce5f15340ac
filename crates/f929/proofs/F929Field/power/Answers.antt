use Rattle.std.proofs.Common.{◌≡◌, refl}
use Rattle.field.specs.Tables.{turn}
use Rattle.field.proofs.Tables.{power_round}
use Rattle.f929.specs.Residues.{residues}
use Rattle.f929.specs.ResiduesLemmas.{residues_laws}
use Rattle.f929.specs.declared.powers.TheConstants.{POWERS}
use Rattle.f929.proofs.F929Field.power.Goals as goal

-- the table at all of it: antt computes the powers and compares them
table : POWERS ≡ turn residues
unfolding turn
table = refl

pub returns : goal.returns
returns c = power_round residues residues_laws POWERS table c.args.i c.from.result c.from-2.result c.from.ensures c.from-2.ensures
