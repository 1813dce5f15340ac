use Rattle.std.proofs.Common.{◌≡◌, ℕ, ◌<◌, ◌≤◌, get_or}
use Rattle.field.proofs.update.Given as goal

abbrev pub invariant-loop-i : goal.invariant-loop-i
invariant-loop-i g l = record {
  done : (k : ℕ) → k < l.i → goal.S-post g l.step (get_or l.partners k 0) (get_or l.initial.place-items k 0) (get_or l.place-items k 0);
  rest : (k : ℕ) → l.i ≤ k → get_or l.place-items k 0 ≡ get_or l.initial.place-items k 0;
}
