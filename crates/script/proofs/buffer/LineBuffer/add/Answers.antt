use Rattle.std.proofs.Common.{◌≤◌, [], ◌∷◌, ◌++◌, length, sym, ◌∙◌, arith, length-append}
use Rattle.std.proofs.lemmas.List.{take_all, take_at}
use Rattle.script.specs.Kept.{kept}
use Rattle.script.proofs.buffer.LineBuffer.add.Goals as goal

pub returns-then-len-le-LONGEST_LINE : goal.returns-then-len-le-LONGEST_LINE
returns-then-len-le-LONGEST_LINE c =
    let s = c.args.self.now in
    let few : length (kept s ++ (c.args.byte ∷ [])) ≤ 6001 = omega (arith, length-append (kept s) (c.args.byte ∷ []), s.bytes.ok.0) in
    c.push_reserved.ensures.items ∙ sym (take_all 6001 (kept s ++ (c.args.byte ∷ [])) few)

pub returns-else-len-le-LONGEST_LINE : goal.returns-else-len-le-LONGEST_LINE
returns-else-len-le-LONGEST_LINE c =
    let s = c.args.self.now in
    sym (take_at (kept s) (c.args.byte ∷ []) 6001 (omega (arith, s.bytes.ok.0)))
