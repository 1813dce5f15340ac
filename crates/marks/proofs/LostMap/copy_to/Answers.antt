use Rattle.std.proofs.Common.{◌∙◌, ap₂}
use Rattle.marks.specs.Held.{flags}
use Rattle.marks.specs.Marks.{marks}
use Rattle.marks.proofs.LostMap.copy_to.Goals as goal

pub returns-clause-after : goal.returns-clause-after
unfolding flags
returns-clause-after c = c.write_marks.ensures ∙ ap₂ marks c.if-out-self.false c.as_slice.ensures.value
