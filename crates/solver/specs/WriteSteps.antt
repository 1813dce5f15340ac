-- Internal: what is written to the buffers once the steps are done, and the refusal as a number.
use Rattle.std.specs.Prelude.{◌≡◌, ℕ, List, take, Ok, Err, Some, None, Option, Result, slice_index}
use Rattle.code.specs.Refusals.{number}
use Rattle.code.specs.declared.Refusal.{Refusal}
use Rattle.field.specs.Meaning.{Meaning}
use Rattle.solver.specs.Answer.{Counts}
use Rattle.solver.specs.RowSteps.{Scaled}
use Rattle.solver.specs.Sides.{on}
use Rattle.solver.specs.declared.Side.{Side}
use Rattle.solver.specs.declared.pair.Pair.{Pair}

-- a pair divided by its leading coefficient, which is on this side, over the first size places of two buffers
pub record Written (f : Meaning) (side : Side) (size : ℕ) (p : Pair) (xs ys xs' ys' : List ℕ) (found : ℕ × ℕ × Side) : Type 0 where
  pub left : Scaled f (f.recip (slice_index (on side p.left p.right) p.top)) size p.left xs xs'
  pub right : Scaled f (f.recip (slice_index (on side p.left p.right) p.top)) size p.right ys ys'
  pub left_counted : Counts (take size xs') found.0
  pub right_counted : Counts (take size ys') found.1
  pub leading : found.2 ≡ side

-- the number of the refusal, or none
abbrev pub reason : Result Unit Refusal → Option ℕ
reason (Ok x) = None
reason (Err e) = Some (number e)
