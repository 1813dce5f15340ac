-- Internal: what the solver holds after k steps.
use Rattle.std.specs.Prelude.{◌≡◌, ℕ, List}
use Rattle.field.specs.Meaning.{Meaning, Laws}
use Rattle.solver.specs.PairSteps.{Held, discrepancy_of}
use Rattle.solver.specs.declared.order.Order.{Order}
use Rattle.solver.specs.declared.pair.Pair.{Pair}
use Rattle.solver.specs.declared.steps.Basis.{Basis}
use Rattle.solver.specs.declared.steps.Known.{Known}
use Rattle.solver.specs.declared.steps.Known.TheVariants.{Left, Right}

-- the discrepancy at k of s, on the left, or of t, on the right
abbrev pub IsKnown : Meaning → ℕ → List ℕ → Pair → Pair → Known → Type 0
IsKnown f k g s t (Left x) = x ≡ discrepancy_of f k g s
IsKnown f k g s t (Right y) = y ≡ discrepancy_of f k g t

-- after k steps, in this order
pub record Reached (f : Meaning) (g : List ℕ) (o : Order) (k : ℕ) (b : Basis) : Type 0 where
  pub held : (w : Laws f) → Held f w g o.plus o.minus k b.left b.right
  pub known : IsKnown f k g b.left b.right b.known
