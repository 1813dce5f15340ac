use Rattle.std.proofs.Common.{◌≡◌, ◌-◌, get_or}
use Rattle.field.specs.Sums.{sum_of}
use Rattle.solver.proofs.rows.product_at.Given as goal

abbrev pub invariant-loop-i : goal.invariant-loop-i
invariant-loop-i g l = let f = g.F.Field.means l.field in l.total ≡ sum_of f l.i (λ n. f.prod (get_or l.b n 0) (get_or l.g (l.k - n) 0))
