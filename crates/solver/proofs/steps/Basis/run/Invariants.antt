use Rattle.solver.specs.BasisSteps.{Reached}
use Rattle.solver.proofs.steps.Basis.run.Given as goal

abbrev pub invariant-loop-k : goal.invariant-loop-k
invariant-loop-k g l =
    let problem = l.congruence in
    Reached (g.F.Field.means problem.field.now) problem.g.now problem.order l.k l.self
