use Rattle.std.proofs.Common.{sym, refl, subst}
use Rattle.solver.specs.PairSteps.{Starts}
use Rattle.solver.proofs.Beginning.{zeros, zeros_after}
use Rattle.solver.proofs.pair.Pair.one.Goals as goal

pub returns-in-Left : goal.returns-in-Left
returns-in-Left c = subst (λ s. Starts s _) (sym c.in-Left.is) (record { top = refl; size = refl; first = refl; later = zeros_after 512; nil = zeros 513 })

pub returns-in-Right : goal.returns-in-Right
returns-in-Right c = subst (λ s. Starts s _) (sym c.in-Right.is) (record { top = refl; size = refl; first = refl; later = zeros_after 512; nil = zeros 513 })
