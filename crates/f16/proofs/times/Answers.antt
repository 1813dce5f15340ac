use Rattle.std.proofs.Common.{◌≡◌, ℕ, ◌-◌, ◌%◌, cond, eqb, sym, refl, ap, ◌∙◌, arith, lit<}
use lib.Bits.{bit_xor, xor_zero_r, xor_lt}
use Rattle.binary.specs.Polynomials.{terms, product}
use Rattle.f16.proofs.Steps.{step, odd_adds, even_adds, add_in}
use Rattle.f16.proofs.times.Goals as goal
use Rattle.f16.proofs.times.Goals.{then-right-eq1, else-right-eq1}

pub loop-init : goal.loop-init
unfolding product
loop-init c = (c.requires.0, omega arith, refl)

pub loop-preserved : goal.loop-preserved
loop-preserved c =
    let add : ℕ = cond (eqb (c.loop.right % 2) 1) c.loop.left 0 in
    let total_is : c.if-right-eq1.total ≡ bit_xor c.loop.total add =
    elim c.if-right-eq1.branch [
      | then-right-eq1 w ↦ w.total-is ∙ odd_adds c.loop.total c.loop.right c.loop.left w.if-right-eq1.true
      | else-right-eq1 w ↦ w.total-is ∙ even_adds c.loop.total c.loop.right c.loop.left w.if-right-eq1.false
    ] in (
      c.shifted-left.ensures.within,
      rw total_is (xor_lt 4 c.loop.total add c.loop.invariant.1 (add_in c.loop.right c.loop.left 16 (lit< tt) c.loop.invariant.0)),
      simp (total_is, c.shifted-left.ensures.is) (step 4 c.loop.counter c.loop.total c.loop.left c.loop.right c.loop-test.true) ∙ c.loop.invariant.2,
    )

pub returns-clause-is : goal.returns-clause-is
returns-clause-is c =
    let k : 4 - c.loop.counter ≡ 0 = omega arith in
    sym (xor_zero_r c.loop.total) ∙ ap (λ (n : ℕ). bit_xor c.loop.total (terms 4 19 n c.loop.left c.loop.right)) (sym k) ∙ c.loop.invariant.2
