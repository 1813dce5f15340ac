use Rattle.std.proofs.Common.{false, length, sym, ◌∙◌, arith, ext_get_or}
use Rattle.marks.proofs.Reading.{length_marks, mark_at}
use Rattle.marks.proofs.bytes.write_marks.Goals as goal

pub returns : goal.returns
returns c =
    let n = length c.args.out.now in
    let long = length_marks n c.args.map.now in
    ext_get_or false _ _ (omega arith) (λ k h. c.loop-pos.invariant k (omega arith) ∙ sym (mark_at n c.args.map.now k false (omega arith)))
