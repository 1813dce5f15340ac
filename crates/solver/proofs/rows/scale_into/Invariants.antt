use Rattle.std.proofs.Common.{◌≡◌, ℕ, ◌<◌, ◌≤◌, get_or}
use Rattle.solver.proofs.rows.scale_into.Given as goal

abbrev pub invariant-loop-i : goal.invariant-loop-i
invariant-loop-i g l = record {
  done : (k : ℕ) → k < l.i → get_or l.place-items k 0 ≡ (g.F.Field.means l.field).prod l.c (get_or l.from k 0);
  rest : (k : ℕ) → l.i ≤ k → get_or l.place-items k 0 ≡ get_or l.initial.place-items k 0;
}
