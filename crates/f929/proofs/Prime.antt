-- 929 is prime: it shares no divisor but 1 with a smaller number.
use Rattle.std.proofs.Common.{◌≡◌, ℕ, zero, suc, ◌+◌, ◌-◌, ◌%◌, ◌<◌, not, eqb, sym, refl, ◌∙◌, subst, ⊎_elim, mod-eq_of_lt, arith}
use native.Mathlib.Nat.{mod-zero}
use Rattle.std.proofs.lemmas.Bool.{both_ways, not-true, eq-eqb, cases_lt}
use Rattle.field.proofs.Tests.{at}
use Rattle.f929.specs.Coprime.{Coprime}

-- no number from 2 to 928 divides 929
none : (d : ℕ) → 1 < d → d < 929 → 929 % d ≡ 0 → ⊥
none d low high e =
    let s : d - 2 + 2 ≡ d = omega arith in
    both_ways _ (not-true _ (at 927 (λ k. not (eqb (929 % (k + 2)) 0)) refl (d - 2) (omega arith)))
    (eq-eqb _ 0 (subst (λ (k : ℕ). 929 % k ≡ 0) (sym s) e))

-- what divides x is at most x
within : (d x : ℕ) → 0 < x → x < 929 → x % d ≡ 0 → d < 929
within d x low high hx =
    ⊎_elim (λ h. h) (λ h. let s : x % d ≡ x = mod-eq_of_lt (omega arith) in omega (arith, sym s ∙ hx)) (cases_lt d 929)

pub prime : (x : ℕ) → 0 < x → x < 929 → Coprime x 929
prime x low high zero hx hn = absurd (let e : x ≡ 0 = sym (mod-zero x) ∙ hx in omega arith)
prime x low high (suc zero) hx hn = refl
prime x low high (suc (suc d)) hx hn =
    absurd (none (suc (suc d)) (omega arith) (within (suc (suc d)) x low high hx) hn)
