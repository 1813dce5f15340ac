use Rattle.std.proofs.Common.{refl}
use Rattle.marks.specs.Held.{flags}
use Rattle.marks.specs.Marks.{marks}
use Rattle.marks.proofs.LostMap.new.Goals as goal

pub returns : goal.returns
unfolding flags marks
returns c = (refl, refl)
