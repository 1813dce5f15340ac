use Rattle.std.proofs.Common.{◌≡◌, ℕ, ◌+◌, ◌%◌, sym, ap, ◌∙◌, ap₂, arith, lit<}
use Rattle.field.specs.Meaning.{pow}
use Rattle.field.proofs.Powers.{pow_mod, pow_add}
use Rattle.binary.specs.Polynomials.{product}
use Rattle.f256.specs.Bytes.{bytes}
use Rattle.f256.specs.BytesLemmas.{bytes_laws, zero_left}
use Rattle.f256.proofs.F256Field.product.Goals as goal
use Rattle.f256.proofs.F256Field.product.Goals.{then-both-lt-TURN, else-both-lt-TURN}

pub returns-in_default-clause-within : goal.returns-in_default-clause-within
returns-in_default-clause-within c hx hy = sym (zero_left c.args.y) ∙ ap (λ (v : ℕ). product 8 285 v c.args.y) (sym (c.in_default.ensures hx))

pub returns-in_default-logarithm-clause-within : goal.returns-in_default-logarithm-clause-within
returns-in_default-logarithm-clause-within c hx hy =
    let x = c.args.x in
    sym (zero_left x) ∙ bytes_laws.prod_comm 0 x (lit< tt) hx ∙ ap (product 8 285 x) (sym (c.in_default-logarithm.ensures hy))

pub returns-clause-within : goal.returns-clause-within
returns-clause-within c hx hy =
    let i = c.in-Some.i in
    let j = c.in-Some-logarithm.j in
    let k : c.if-both-lt-TURN.power_of ≡ (i + j) % 255 =
    elim c.if-both-lt-TURN.branch [
      | then-both-lt-TURN w ↦ omega (arith, w.power_of-is, c.in-Some.ensures.0, c.in-Some-logarithm.ensures.0)
      | else-both-lt-TURN w ↦ omega (arith, w.power_of-is, c.in-Some.ensures.0, c.in-Some-logarithm.ensures.0)
    ] in
    c.power_of.ensures ∙ ap (pow bytes 2) k ∙ pow_mod bytes bytes_laws (i + j) ∙ pow_add bytes bytes_laws 2 i j (lit< tt)
    ∙ ap₂ (product 8 285) c.in-Some.ensures.1 c.in-Some-logarithm.ensures.1
