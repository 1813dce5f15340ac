use Rattle.std.proofs.Common.{◌≡◌, ℕ, ◌<◌, get_or}
use Rattle.code.specs.Shape.{shape}
use Rattle.code.specs.Words.{check_sum}
use Rattle.corrector.proofs.syndromes.write_syndromes.Given as goal

-- the first syndromes are written
abbrev pub invariant-loop-j : goal.invariant-loop-j
invariant-loop-j g l = (j : ℕ) → j < l.j → get_or l.syndromes j 0 ≡ check_sum (g.F.Field.means l.over.field.now) (shape l.over.code) l.word j
