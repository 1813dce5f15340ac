use Rattle.std.proofs.Common.{◌≡◌, ◌+◌, length, sym, subst, arith}
use Rattle.solver.specs.WriteSteps.{Written}
use Rattle.solver.proofs.Beginning.{reached_start}
use Rattle.solver.proofs.Ending.{LeadsOn, leads_on, solved_on}
use Rattle.solver.proofs.steps.Congruence.least_pair.Goals as goal

pub run-requires : goal.run-requires
run-requires g c =
    let problem = c.args.self.now in
    let field = problem.field.now in
    let e = c.first-basis.ensures in
    reached_start (g.F.Field.means field) (g.met.F.Field.lawful field) problem.g.now _ c.first-basis.result problem.row e.left e.right e.known

pub lower-side-requires : goal.lower-side-requires
lower-side-requires g c =
    let problem = c.args.self.now in
    let few = problem.few in
    let b = c.run.new.self in
    let size : b.left.top + b.right.top ≡ length problem.g.now = (c.run.ensures.held (g.met.F.Field.lawful problem.field.now)).basis.size in
    (omega arith, omega arith)

pub write_divided-requires : goal.write_divided-requires
write_divided-requires g c =
    let problem = c.args.self.now in
    let few = problem.few in
    let n = length problem.g.now in
    let f = g.F.Field.means problem.field.now in
    let w = g.met.F.Field.lawful problem.field.now in
    let side = c.lower-side.result in
    let h = subst (LeadsOn f.q n side) (sym c.pair.ensures) (leads_on f w problem.g.now _ _ n _ _ (c.run.ensures.held w) side) in
    record { room = (omega arith, omega (arith, c.requires.room.0), omega (arith, c.requires.room.1)); top = omega (arith, h.top); leading = h.some; pair = h.symbols }

pub returns : goal.returns
returns g c = λ r e.
    let problem = c.args.self.now in
    let n = length problem.g.now in
    let f = g.F.Field.means problem.field.now in
    let w = g.met.F.Field.lawful problem.field.now in
    let written = c.write_divided in
    let lefts = c.args.left.now in
    let rights = c.args.right.now in
    solved_on f w r _ _ e n problem.g.now _ _ problem.row (c.run.ensures.held w) lefts rights written.new.left written.new.right written.result written.auto.left written.auto.right
    c.lower-side.result c.lower-side.ensures (subst (λ p. Written f c.lower-side.result (n + 1) p lefts rights written.new.left written.new.right written.result) c.pair.ensures written.ensures)
