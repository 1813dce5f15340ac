use Rattle.std.proofs.Common.{ℕ, ◌+◌, List, [], ◌∷◌, get_or, set, ap, ◌∙◌, arith}
use Rattle.report.specs.declared.Change.{Change}
use Rattle.report.proofs.Written.{both_more}
use Rattle.report.proofs.Report.write.Goals as goal

-- what is read past the end
abbrev none : Change
none = record { position = 0; former = 0 }

pub loop-i-preserved : goal.loop-i-preserved
loop-i-preserved c =
    let cs = c.deref-change-items.result.now in
    let i = c.loop-i.i in
    let n = 2 + c.len-count.result in
    ap (λ (o : List ℕ). set (set o (2 + i) (get_or cs i none).position) (n + i) (get_or cs i none).former) c.loop-i.invariant
    ∙ both_more (λ (x : Change). x.position) (λ (x : Change). x.former) (c.len-count.result ∷ (c.args.self.now.met ∷ [])) cs n i none c.args.out.now c.loop-i-test.true (omega (arith, c.deref-change-items.ensures.len, c.len-count.ensures)) (omega (arith, c.loop-i-test.true, c.deref-change-items.ensures.len, c.len-count.ensures, c.if-out-count.false))
