-- The laws at degree 4 and modulus 19: the tests that they rest on, computed.
use Rattle.std.specs.Prelude.{◌≡◌, ℕ, ◌<◌, ◌||◌, ◌≢◌, ◌==◌, refl}
use Rattle.std.proofs.Common.{⊎_elim, lit<, lit≤}
use Rattle.std.proofs.lemmas.Bool.{eqb-true, or_cases}
use Rattle.field.specs.Meaning.{Laws}
use Rattle.field.proofs.Tests.{at}
use Rattle.binary.specs.Polynomials.{shifted, product}
use Rattle.binary.proofs.Laws.{Passes, laws}
use Rattle.f16.specs.Sixteen.{sixteen}

pub passes : Passes 4 19
unfolding shifted product
passes = record { degree = lit< tt; low = lit< tt; high = lit≤ tt; shifted_in = refl; one = refl; round = refl; early = refl; turned = refl }

pub sixteen_laws : Laws sixteen
sixteen_laws = laws 4 19 passes

-- x to the fourteenth, as the code has it
abbrev pub fourteenth : ℕ → ℕ
fourteenth x =
    let second = product 4 19 x x in
    let fourth = product 4 19 second second in
    product 4 19 (product 4 19 second fourth) (product 4 19 fourth fourth)

pub gives_one : (x : ℕ) → x < 16 → x ≢ 0 → product 4 19 x (fourteenth x) ≡ 1
unfolding shifted product
gives_one x h nz =
    ⊎_elim (λ e. absurd (nz (eqb-true x 0 e))) (λ e. eqb-true _ 1 e)
    (or_cases (x == 0) _ (at 16 (λ v. (v == 0) || product 4 19 v (fourteenth v) == 1) refl x h))
