use Rattle.std.proofs.Common.{arith}
use Rattle.bay.proofs.Bay.new.Goals as goal

pub invariant_of-result-clause-starts : goal.invariant_of-result-clause-starts
invariant_of-result-clause-starts g c = let low = (g.met.F.Field.lawful c.args.field).m_low in let turn = g.met.F.Fixed.turn c.args.field in omega (arith, low, turn)
