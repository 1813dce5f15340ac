use Rattle.std.proofs.Common.{ℕ, ◌≤◌, sym, subst}
use Rattle.code.specs.Refusals.{numbered}
use Rattle.bay.specs.Held.{held}
use Rattle.bay.proofs.Fitting.{code_in}
use Rattle.bay.proofs.Correcting.{both}
use Rattle.bay.proofs.Bay.correct.Goals as goal

pub returns : goal.returns
returns g c =
    let s = c.args.self.now in
    let f = g.F.Field.means s.field in
    let turn = sym (g.met.F.Fixed.turn s.field) in
    let r = both f (held s) (g.met.F.Field.lawful s.field) (λ d e. subst (λ (k : ℕ). d.n ≤ k) turn (code_in g.row.M s.code s.fits d e)) (numbered c.repair.result) (held c.repair.new.self) c.repair.ensures.does in
    record { follows = c.repair.ensures; refuses = r.0; corrects = r.1 }
