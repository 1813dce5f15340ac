use Rattle.std.proofs.Common.{ℕ, ◌<◌, sym, subst}
use Rattle.binary.proofs.Laws.{x_in}
use Rattle.f16.specs.SixteenLemmas.{passes}
use Rattle.f16.proofs.Steps.{shift_low, shift_high}
use Rattle.f16.proofs.shifted.Goals as goal

pub returns-then-v-lt-TOP-clause-is : goal.returns-then-v-lt-TOP-clause-is
returns-then-v-lt-TOP-clause-is c = shift_low c.args.v c.requires c.if-v-lt-TOP.true

pub returns-else-v-lt-TOP : goal.returns-else-v-lt-TOP
returns-else-v-lt-TOP c =
    let e = shift_high c.args.v c.requires c.if-v-lt-TOP.false in
    record { is = e; within = subst (λ (n : ℕ). n < 16) (sym e) (x_in 4 19 passes c.args.v c.requires) }
