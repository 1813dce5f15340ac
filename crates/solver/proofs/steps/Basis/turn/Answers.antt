use Rattle.std.proofs.Common.{inl, inr}
use Rattle.solver.specs.declared.Side.TheVariants.{Left, Right}
use Rattle.solver.proofs.Turns.{ready, reached_left, reached_right}
use Rattle.solver.proofs.steps.Basis.turn.Goals as goal
use Rattle.solver.proofs.steps.Basis.turn.Goals.{then-x-eq0, else-x-eq0, then-y-eq0, else-y-eq0}

pub discrepancies-x-requires-clause-one : goal.discrepancies-x-requires-clause-one
discrepancies-x-requires-clause-one g c = (c.requires.reached.held (g.met.F.Field.lawful c.args.congruence.now.field.now)).one

pub discrepancies-x-requires-clause-two : goal.discrepancies-x-requires-clause-two
discrepancies-x-requires-clause-two g c = (c.requires.reached.held (g.met.F.Field.lawful c.args.congruence.now.field.now)).two

pub lower-requires : goal.lower-requires
lower-requires g c =
    let problem = c.args.congruence.now in
    let field = problem.field.now in
    let w = g.met.F.Field.lawful field in
    let at = ready (g.F.Field.means field) w problem.g.now _ _ c.args.k _ _ problem.row c.requires.below problem.few (c.requires.reached.held w) in
    ((at Left).top, (at Right).top)

pub step-requires : goal.step-requires
step-requires g c =
    let problem = c.args.congruence.now in
    let field = problem.field.now in
    let w = g.met.F.Field.lawful field in
    let at = ready (g.F.Field.means field) w problem.g.now _ _ c.args.k _ _ problem.row c.requires.below problem.few (c.requires.reached.held w) in
    let a = at Left in
    let b = at Right in
    let d = c.discrepancies-x.ensures in
    record { room = (a.size, b.size); tops = (a.top, b.top); symbols = (rw d.left a.below, rw d.right b.below); one = a.symbols; two = b.symbols }

pub step-requires-in-Right : goal.step-requires-in-Right
step-requires-in-Right g c =
    let problem = c.args.congruence.now in
    let field = problem.field.now in
    let w = g.met.F.Field.lawful field in
    let at = ready (g.F.Field.means field) w problem.g.now _ _ c.args.k _ _ problem.row c.requires.below problem.few (c.requires.reached.held w) in
    let a = at Left in
    let b = at Right in
    let d = c.discrepancies-x.ensures in
    record { room = (b.size, a.size); tops = (b.top, a.top); symbols = (rw d.right b.below, rw d.left a.below); one = b.symbols; two = a.symbols }

pub returns-after-x-eq0 : goal.returns-after-x-eq0
returns-after-x-eq0 g c =
    let problem = c.args.congruence.now in
    let f = g.F.Field.means problem.field.now in
    let w = g.met.F.Field.lawful problem.field.now in
    let d = c.discrepancies-x.ensures in
    reached_left f w _ c.args.k problem.g.now c.args.self.now _ _ _ _ _ problem.row c.requires.reached d.left d.right c.in-Left.ensures c.step.ensures
    (elim c.if-x-eq0.branch [ then-x-eq0 w ↦ inl (w.if-x-eq0.true, w.self-is) | else-x-eq0 w ↦ inr (w.if-x-eq0.false, w.self-is) ])

pub returns-after-y-eq0 : goal.returns-after-y-eq0
returns-after-y-eq0 g c =
    let problem = c.args.congruence.now in
    let f = g.F.Field.means problem.field.now in
    let w = g.met.F.Field.lawful problem.field.now in
    let d = c.discrepancies-x.ensures in
    reached_right f w _ c.args.k problem.g.now c.args.self.now _ _ _ _ _ problem.row c.requires.reached d.left d.right c.in-Right.ensures c.step-in-Right.ensures
    (elim c.if-y-eq0.branch [ then-y-eq0 w ↦ inl (w.if-y-eq0.true, w.self-is) | else-y-eq0 w ↦ inr (w.if-y-eq0.false, w.self-is) ])
