use Rattle.std.proofs.Common.{◌≡◌, ℕ, suc, ◌<◌, List, sym, subst, add-one}
use Rattle.field.specs.Meaning.{pow}
use Rattle.field.specs.Symbols.{Within}
use Rattle.field.proofs.Powers.{pow_in}
use Rattle.corrector.specs.RowSteps.{Modified, Multiplied}
use Rattle.corrector.proofs.RowTurns.{modified_on, modified_off, multiplied_in}
use Rattle.corrector.proofs.syndromes.modify.Goals as goal
use Rattle.corrector.proofs.syndromes.modify.Goals.{then-e, else-e}

pub multiply-requires : goal.multiply-requires
multiply-requires g c =
    let field = c.args.field.now in
    let f = g.F.Field.means field in
    let l = g.met.F.Field.lawful field in
    let size = g.met.F.Fixed.size field in
    record { symbol = subst (λ (n : ℕ). c.power.result < n) size (rw c.power.ensures (pow_in f l f.a c.loop-i.i l.a_high)); symbols = c.loop-i.invariant.1 }

pub loop-i-preserved : goal.loop-i-preserved
loop-i-preserved g c =
    let field = c.args.field.now in
    let f = g.F.Field.means field in
    let l = g.met.F.Field.lawful field in
    let size : f.q ≡ g.row.Q = g.met.F.Fixed.size field in
    let i = c.loop-i.i in
    let erased = c.args.erased.now in
    let xs = c.args.row.now in
    let ys = c.loop-i.row in
    rw (add-one i) (elim c.if-e.branch [
      | then-e w ↦
          let zs = w.multiply.new.row in
          let by : Multiplied f (pow f f.a i) ys zs = subst (λ (x : ℕ). Multiplied f x ys zs) w.power.ensures w.multiply.ensures in
          let ys_in : Within f.q ys = subst (λ (q : ℕ). Within q ys) (sym size) c.loop-i.invariant.1 in
          let zs_in : Within g.row.Q zs = subst (λ (q : ℕ). Within q zs) size (multiplied_in f l (pow f f.a i) ys zs (pow_in f l f.a i l.a_high) ys_in by) in
          subst (λ (r : List ℕ). Modified f erased (suc i) xs r × Within g.row.Q r) (sym w.row-is) (modified_on f erased i xs ys c.loop-i.invariant.0 zs by w.if-e.true, zs_in)
      | else-e w ↦ subst (λ (r : List ℕ). Modified f erased (suc i) xs r × Within g.row.Q r) (sym w.row-is)
          (modified_off f erased i xs ys c.loop-i.invariant.0 w.if-e.false, c.loop-i.invariant.1)
    ])
