-- The rows of the table, in its order.
use Rattle.std.proofs.Common.{refl}
use Rattle.examples.proofs.Labels as label
use Rattle.examples.proofs.Controls as control
use Rattle.examples.proofs.Reels as reel
use Rattle.examples.proofs.worked_examples.Goals as goal

infixr 10 ◌then◌
◌then◌ : {A B : Type 0} → A → B → A × B
a then b = (a, b)

pub returns : goal.returns
returns c = record {
  count = refl;
  right =
      label.clean
      then label.one_wrong
      then label.too_far
      then label.too_far_with_one
      then label.two_lost
      then label.all_lost
      then label.two_filled
      then label.checks_laid
      then control.two_wrong
      then reel.one_lost
      then reel.two_lost
      then control.key
      then control.zero_right
      then control.zero_left
      then tt;
}
