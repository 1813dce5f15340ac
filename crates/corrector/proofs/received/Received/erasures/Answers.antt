use Rattle.std.proofs.Common.{rules, ◌≡◌, Bool, count_by, sym, ◌∙◌}
use Rattle.code.specs.Shape.{shape}
use Rattle.code.proofs.Counts.{marked_is}
use Rattle.corrector.proofs.received.Received.erasures.Goals as goal

pub returns : goal.returns
returns g c =
    let counted : c.count.result ≡ count_by (λ (b : Bool). b) c.args.self.now.erased.now = search rules in
    counted ∙ sym (marked_is (shape c.args.self.now.over.code) c.args.self.now.erased.now c.args.self.now.wide)
