use Rattle.std.proofs.Common.{rules, ◌≡◌, sum_by, ◌∙◌, arith}
use lib.Count.{ones}
use Rattle.marks.proofs.Counting.{ones_marked}
use Rattle.marks.proofs.bytes.count_bits.Goals as goal

pub returns : goal.returns
returns c n clean =
    let total : c.sum.result ≡ sum_by ones c.args.map.now = search rules in
    total ∙ ones_marked n c.args.map.now (λ i. omega (arith, c.type_inv.map i)) clean
