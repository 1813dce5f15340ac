use Rattle.std.proofs.Common.{ℕ, false, List, sym, ap, ◌∙◌, arith, le-ltb}
use Rattle.marks.specs.Held.{flags}
use Rattle.marks.specs.Marks.{bit_at}
use Rattle.marks.proofs.Reading.{mark_at, mark_past}
use Rattle.marks.proofs.LostMap.has.Goals as goal

pub returns-else-pos-self : goal.returns-else-pos-self
unfolding flags
returns-else-pos-self c = le-ltb _ _ c.if-pos-self.false ∙ sym (mark_past _ _ c.args.pos (omega arith))

pub returns-then-pos-self : goal.returns-then-pos-self
unfolding flags
returns-then-pos-self c =
    c.has_bit.ensures ∙ ap (λ (l : List ℕ). bit_at l c.args.pos) c.as_slice.ensures.value
    ∙ sym (mark_at _ _ c.args.pos false (omega arith))
