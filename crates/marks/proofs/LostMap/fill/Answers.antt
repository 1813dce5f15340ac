use Rattle.std.proofs.Common.{refl, ap, ◌∙◌, rules}
use Rattle.std.proofs.lemmas.List.{take_at}
use Rattle.marks.specs.Held.{flags}
use Rattle.marks.specs.Marks.{marks}
use Rattle.marks.proofs.LostMap.fill.Goals as goal

pub returns-clause-after : goal.returns-clause-after
unfolding flags
returns-clause-after c = record { flags = ap (marks c.args.self.now.n) (take_at _ _ _ (search rules) ∙ c.copy_from_slice.ensures.after); span = refl }
