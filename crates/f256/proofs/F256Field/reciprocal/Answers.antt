use Rattle.std.proofs.Common.{◌≡◌, ℕ, ◌+◌, ◌-◌, ◌%◌, ◌<◌, Some, sym, ap, ◌∙◌, subst, arith, lit<}
use Rattle.field.specs.Meaning.{pow}
use Rattle.field.proofs.Powers.{pow_in, pow_mod, pow_add}
use Rattle.field.proofs.Reciprocals.{recip_unique}
use Rattle.binary.specs.Polynomials.{product}
use Rattle.f256.specs.Bytes.{bytes}
use Rattle.f256.specs.BytesLemmas.{bytes_laws}
use Rattle.f256.proofs.F256Field.reciprocal.Goals as goal
use Rattle.f256.proofs.F256Field.reciprocal.Goals.{then-i-eq0, else-i-eq0}

-- x to the i and x to the 255 - i give 1
pair : (v i r : ℕ) → i < 255 → pow bytes 2 i ≡ v → r ≡ pow bytes 2 (255 - i) → product 8 285 v r ≡ 1
pair v i r h back is =
    let whole : i + (255 - i) ≡ 255 = omega arith in
    ap (λ (w : ℕ). product 8 285 w r) (sym back) ∙ ap (product 8 285 (pow bytes 2 i)) is
    ∙ sym (pow_add bytes bytes_laws 2 i (255 - i) (lit< tt)) ∙ ap (pow bytes 2) whole ∙ bytes_laws.pow_round

pub returns-clause-within : goal.returns-clause-within
returns-clause-within c h nz =
    let x = c.args.x in
    let r = c.power_of.result in
    let i = c.in_ok-i.i in
    let l = c.in_ok-i.ensures in
    let k : c.if-i-eq0.power_of ≡ (255 - i) % 255 =
    elim c.if-i-eq0.branch [ then-i-eq0 w ↦ omega (arith, w.power_of-is) | else-i-eq0 w ↦ omega (arith, w.power_of-is) ] in
    let is : r ≡ pow bytes 2 (255 - i) = c.power_of.ensures ∙ ap (pow bytes 2) k ∙ pow_mod bytes bytes_laws (255 - i) in
    let below : r < 256 = subst (λ (n : ℕ). n < 256) (sym is) (pow_in bytes bytes_laws 2 (255 - i) (lit< tt)) in
    ap Some (recip_unique bytes bytes_laws x r h nz below (pair x i r c.in_ok-i.ensures.0 c.in_ok-i.ensures.1 is))
