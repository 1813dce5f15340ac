use Rattle.std.proofs.Common.{rules, ◌≡◌, ℕ, ◌*◌, ◌<◌, ◌≢◌, true, List, get_or, Some, None, Option, sym, ◌∙◌, subst, mod-lt, arith}
use native.Mathlib.Decide.{ℕ_discrete}
use Rattle.std.proofs.lemmas.Nat.{mul-le}
use Rattle.field.specs.Symbols.{Within, all_below}
use Rattle.field.proofs.Symbols.{within_from}
use Rattle.code.specs.Shape.{shape}
use Rattle.errata.specs.Pieces.{divisor}
use Rattle.corrector.proofs.Valued.{valued_back}
use Rattle.corrector.proofs.Mending.{divisor_is, mended_is}
use Rattle.corrector.proofs.received.Received.mended_at.Goals as goal

pub overflow_mul-k : goal.overflow_mul-k
overflow_mul-k g c =
    let field = c.args.self.now.over.field.now in
    let l = g.met.F.Field.lawful field in
    let t = g.met.F.Fixed.turn field in
    let h = mul-le c.args.k c.first_root.result 1024 1024 (omega (arith, t, c.args.self.now.over.fits, c.requires.here, l.m_high, l.q_high)) (omega (arith, c.first_root.ensures, c.args.self.now.over.starts, t, l.m_high, l.q_high)) in
    omega (arith, h)

pub overflow_cast-k : goal.overflow_cast-k
overflow_cast-k g c =
    let field = c.args.self.now.over.field.now in
    let l = g.met.F.Field.lawful field in
    let t = g.met.F.Fixed.turn field in
    let pos : 0 < g.row.M = omega (arith, t, l.m_low) in
    let h = mod-lt (c.args.k * c.first_root.result) pos in
    omega (arith, h, t, l.m_high, l.q_high)

never : (x : ℕ) (o : Option ℕ) → o ≡ None → o ≡ Some x → ⊥
never x o p q = let z : ◌≡◌ {A = ℕ} 0 1 = cc in omega arith

some_is : (x y : ℕ) (o : Option ℕ) → o ≡ Some x → o ≡ Some y → x ≡ y
some_is x y o p q = cc

pub returns-in_err-t : goal.returns-in_err-t
returns-in_err-t g c =
    let field = c.args.self.now.over.field.now in
    let f = g.F.Field.means field in
    let l = g.met.F.Field.lawful field in
    let size : f.q ≡ g.row.Q = g.met.F.Fixed.size field in
    let turn : f.m ≡ g.row.M = g.met.F.Fixed.turn field in
    let sh = shape c.args.self.now.over.code in
    let k = c.args.k in
    let b = c.args.pair.now.locator.now in
    let b_in : Within f.q b = subst (λ (q : ℕ). Within q b) (sym size) c.args.pair.now.right in
    let constant : c.unwrap_or-constant.result ≡ get_or b 0 0 = search rules in
    let d = divisor_is f l sh b c.args.places.now k g.row.M c.first_root.result c.unwrap_or-constant.result c.power-turn.result c.product.result c.spread_at.result c.product-d.result
    turn c.first_root.ensures (b_in 0) constant c.power-turn.ensures
    c.product.ensures.within c.spread_at.ensures c.product-d.ensures.within in
    let none : c.reciprocal.result ≡ None = search rules in
    let zero : divisor f sh b c.args.places.now k ≡ 0 =
    sym d.1 ∙ elim (ℕ_discrete c.product-d.result 0) [ yes z ↦ z | no z ↦ absurd (never (f.recip c.product-d.result) c.reciprocal.result none (c.reciprocal.ensures.within d.0 z)) ] in
    search (rules, zero)

pub returns : goal.returns
returns g c =
    let field = c.args.self.now.over.field.now in
    let f = g.F.Field.means field in
    let l = g.met.F.Field.lawful field in
    let size : f.q ≡ g.row.Q = g.met.F.Fixed.size field in
    let turn : f.m ≡ g.row.M = g.met.F.Fixed.turn field in
    let sh = shape c.args.self.now.over.code in
    let k = c.args.k in
    let a = c.args.pair.now.evaluator.now in
    let b = c.args.pair.now.locator.now in
    let w = c.args.self.now.word.now in
    let in_of : (xs : List ℕ) → Within g.row.Q xs → Within f.q xs = λ xs h. subst (λ (q : ℕ). Within q xs) (sym size) h in
    let constant : c.unwrap_or-constant.result ≡ get_or b 0 0 = search rules in
    let d = divisor_is f l sh b c.args.places.now k g.row.M c.first_root.result c.unwrap_or-constant.result c.power-turn.result c.product.result c.spread_at.result c.product-d.result
    turn c.first_root.ensures (in_of b c.args.pair.now.right 0) constant c.power-turn.ensures
    c.product.ensures.within c.spread_at.ensures c.product-d.ensures.within in
    let some : c.reciprocal.result ≡ Some c.in_ok-t.t = search rules in
    let ne : c.product-d.result ≢ 0 = λ z. never c.in_ok-t.t c.reciprocal.result (c.reciprocal.ensures.zero z) some in
    let w_in : Within f.q w = within_from f.q w (omega (arith, l.q_low)) (subst (λ (q : ℕ). all_below q w ≡ true) (sym size) c.args.self.now.symbols) in
    let r = mended_is f l sh b c.args.places.now k a w c.product-d.result c.in_ok-t.t c.value.result c.product-amount.result c.opposite.result c.sum.result
    (in_of a c.args.pair.now.left) (w_in k) d ne
    (some_is c.in_ok-t.t (f.recip c.product-d.result) c.reciprocal.result some (c.reciprocal.ensures.within d.0 ne))
    (valued_back f g.row.Q size a c.args.pair.now.left g.row.M k c.value.result turn c.value.ensures)
    c.product-amount.ensures.within c.opposite.ensures.within (c.sum.ensures.within (w_in k)) in
    (subst (λ (q : ℕ). c.sum.result < q) size r.0, r.1)
