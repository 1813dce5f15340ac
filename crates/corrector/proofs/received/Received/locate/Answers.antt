use Rattle.std.proofs.Common.{◌≡◌, ℕ, suc, ◌-◌, List, sym, ◌∙◌, subst, add-one, arith}
use Rattle.std.proofs.lemmas.Bool.{eq-eqb, ne_eqb}
use Rattle.field.specs.Sums.{weighed}
use Rattle.corrector.specs.MendSteps.{Placed}
use Rattle.corrector.proofs.Valued.{valued_back}
use Rattle.corrector.proofs.Placing.{placed_erased, placed_wrong, placed_none, placed_most}
use Rattle.corrector.proofs.received.Received.locate.Goals as goal
use Rattle.corrector.proofs.received.Received.locate.Goals.{then-not-erased+else-value-ne0, else-not-erased}

pub push-requires : goal.push-requires
push-requires g c =
    let field = c.args.self.now.over.field.now in
    let most = placed_most (g.F.Field.means field) c.args.self.now.erased.now c.args.pair.now.locator.now c.loop-i.i c.loop-i.places.items c.loop-i.errors c.loop-i.invariant in
    (omega arith, omega (arith, most, c.loop-i-test.true, c.args.self.now.wide, c.args.self.now.over.code.most))

pub loop-i-preserved-then-value-ne0 : goal.loop-i-preserved-then-value-ne0
loop-i-preserved-then-value-ne0 g c =
    let field = c.args.self.now.over.field.now in
    let f = g.F.Field.means field in
    let b = c.args.pair.now.locator.now in
    let i = c.loop-i.i in
    let is : c.value.result ≡ weighed f b (f.m - i) = valued_back f g.row.Q (g.met.F.Fixed.size field) b c.args.pair.now.right g.row.M i c.value.result (g.met.F.Fixed.turn field) c.value.ensures in
    rw (add-one i) (placed_none f c.args.self.now.erased.now b i c.loop-i.places.items c.loop-i.errors c.loop-i.invariant
    c.if-not-erased.true (ne_eqb _ 0 (λ z. c.if-value-ne0.true (is ∙ z))))

pub loop-i-preserved : goal.loop-i-preserved
loop-i-preserved g c =
    let field = c.args.self.now.over.field.now in
    let f = g.F.Field.means field in
    let erased = c.args.self.now.erased.now in
    let b = c.args.pair.now.locator.now in
    let i = c.loop-i.i in
    let places = c.loop-i.places.items in
    let P : List ℕ → ℕ → Type 0 = λ places' errors. Placed f erased b (suc i) places' errors in
    rw (add-one i) (elim c.if-not-erased.branch [
      | then-not-erased+else-value-ne0 w ↦
          let is : w.value.result ≡ weighed f b (f.m - i) = valued_back f g.row.Q (g.met.F.Fixed.size field) b c.args.pair.now.right g.row.M i w.value.result (g.met.F.Fixed.turn field) w.value.ensures in
          subst (λ xs. P xs c.if-not-erased.errors) (sym c.push.ensures.items) (subst (P _) (sym w.errors-is)
          (placed_wrong f erased b i places c.loop-i.errors c.loop-i.invariant w.if-not-erased.true (eq-eqb _ 0 (sym is ∙ w.if-value-ne0.false))))
      | else-not-erased w ↦ subst (λ xs. P xs c.if-not-erased.errors) (sym c.push.ensures.items) (subst (P _) (sym w.errors-is)
          (placed_erased f erased b i places c.loop-i.errors c.loop-i.invariant w.if-not-erased.false))
    ])
