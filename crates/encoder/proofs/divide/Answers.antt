use Rattle.std.proofs.Common.{◌≡◌, suc, ◌-◌, ◌<◌, get_or, subst, arith}
use borrow.Rule.Slice.PartMut.{put_mid}
use Rattle.code.specs.Shape.{shape}
use Rattle.encoder.proofs.Dividing.{Dividing, dividing_more, taken}
use Rattle.encoder.proofs.divide.Goals as goal

pub loop-i-preserved : goal.loop-i-preserved
loop-i-preserved g c =
    let f = g.F.Field.means c.args.over.now.field.now in
    let l = g.met.F.Field.lawful c.args.over.now.field.now in
    let code = shape c.args.over.now.code in
    let t = c.checks-checks.result in
    let i = c.loop-i.i - 1 in
    let d = i - t in
    let n = i - d in
    let gen = c.args.generator.now in
    let row = c.loop-i.row in
    let kept = c.loop-i.invariant.1 in
    let et : t ≡ code.checks = c.checks-checks.ensures in
    let low : code.checks < c.loop-i.i = omega arith in
    let ei : c.loop-i.i ≡ suc i = omega arith in
    let ce : c.opposite-c.result ≡ f.opp (get_or row i 0) = c.opposite-c.ensures.within (kept.within i) in
    let c_in : c.opposite-c.result < f.q = rw ce (l.opp_in _ (kept.within i)) in (
      omega arith,
      dividing_more f l code.first code.checks d n i c.opposite-c.result gen c.args.row.now row (put_mid d n row c.add_multiple.new.to) (omega arith) (omega arith) c.requires.generates ce
          (subst (λ m. Dividing f code.first code.checks m c.args.row.now row) ei kept)
          (taken f c.opposite-c.result d n (t - 0) gen row c.add_multiple.new.to (omega arith) (omega arith) (omega arith) c.add_multiple.auto.to c_in c.requires.generates.within kept.within c.add_multiple.ensures),
    )
