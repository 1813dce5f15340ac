use Rattle.std.proofs.Common.{rules, ◌≡◌, ℕ, true, false, get_or, is_ok, sym, subst, arith}
use Rattle.field.specs.Symbols.{all_below}
use Rattle.field.proofs.Symbols.{within_from}
use Rattle.code.specs.Shape.{shape}
use Rattle.errata.specs.Pieces.{divisor}
use Rattle.corrector.specs.MendSteps.{Mended}
use Rattle.corrector.proofs.Mending.{Mending, mending_none, mending_all, mending_stuck}
use Rattle.corrector.proofs.received.Received.mend.Goals as goal

pub loop-k-init : goal.loop-k-init
loop-k-init g c =
    let field = c.args.self.now.over.field.now in
    let f = g.F.Field.means field in
    let size : f.q ≡ g.row.Q = g.met.F.Fixed.size field in
    let w = c.args.self.now.word.now in
    subst (Mending f (shape c.args.self.now.over.code) c.args.pair.now.evaluator.now c.args.pair.now.locator.now c.args.places.now w 0) (sym c.copy_from_slice.ensures.after)
    (mending_none f (shape c.args.self.now.over.code) c.args.pair.now.evaluator.now c.args.pair.now.locator.now c.args.places.now w c.args.self.now.long (within_from f.q w (omega (arith, (g.met.F.Field.lawful field).q_low)) (subst (λ (q : ℕ). all_below q w ≡ true) (sym size) c.args.self.now.symbols)))

pub returns-in_err-out : goal.returns-in_err-out
returns-in_err-out g c =
    let f = g.F.Field.means c.args.self.now.over.field.now in
    let sh = shape c.args.self.now.over.code in
    let w = c.args.self.now.word.now in
    let a = c.args.pair.now.evaluator.now in
    let b = c.args.pair.now.locator.now in
    let ps = c.args.places.now in
    let failed : is_ok c.from_residual.result ≡ false = search rules in
    let zero : divisor f sh b ps (get_or ps c.loop-k.k-index 0) ≡ 0 = search rules in
    subst (λ done. Mended f sh a b ps w done c.loop-k.out) (sym failed)
    (mending_stuck f sh a b ps w c.loop-k.out c.loop-k.k-index c.loop-k-test.true (c.requires.inside c.loop-k.k-index) zero)

pub returns : goal.returns
returns g c =
    let self = c.args.self.now in
    mending_all (g.F.Field.means self.over.field.now) (shape self.over.code) c.args.pair.now.evaluator.now c.args.pair.now.locator.now c.args.places.now self.word.now c.loop-k.k-index c.loop-k.out c.loop-k.invariant c.loop-k-test.false
