use Rattle.std.proofs.Common.{◌≡◌, ℕ, ◌+◌, ◌-◌, get_or, refl, ◌∙◌, ◌<◌, sym, ap, subst, arith, rules}
use Rattle.field.specs.Meaning.{pow}
use Rattle.field.specs.Tables.{turn, Logarithms}
use Rattle.field.proofs.Tables.{logarithm_at}
use Rattle.binary.specs.Polynomials.{shifted, product}
use Rattle.f256.specs.Bytes.{bytes}
use Rattle.f256.specs.declared.logarithms.TheConstants.{LOGARITHMS}
use Rattle.f256.proofs.logarithms.logarithm.Goals as goal

-- the table at all of it: one test, which antt computes
table : Logarithms bytes LOGARITHMS
unfolding Logarithms turn shifted product
table = refl

pub returns-then-contains : goal.returns-then-contains
returns-then-contains c =
    let v = c.args.v in
    let low : 0 < v = search rules in
    let high : v < 256 = search rules in
    let h : v - 1 < 255 = omega arith in
    let l = logarithm_at bytes LOGARITHMS (v - 1) table h in
    let read : c.from.result ≡ get_or LOGARITHMS (v - 1) 0 = c.from.ensures in
    let back : 1 + (v - 1) ≡ v = omega arith in
    (subst (λ (n : ℕ). n < 255) (sym read) l.0, ap (pow bytes 2) read ∙ l.1 ∙ back, low, high)
