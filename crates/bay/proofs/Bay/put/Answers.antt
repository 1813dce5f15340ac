use Rattle.field.proofs.Symbols.{below_set}
use Rattle.bay.proofs.Bay.put.Goals as goal

pub invariant_of-self-clause-symbols : goal.invariant_of-self-clause-symbols
invariant_of-self-clause-symbols g c = let s = c.args.self.now in below_set g.row.Q s.word.items c.args.pos c.args.sym s.symbols c.if-sym.false
