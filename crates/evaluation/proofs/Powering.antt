-- A row of powers, with an exponent that goes round.
use Rattle.std.proofs.Common.{◌≡◌, ℕ, suc, ◌+◌, ◌-◌, ◌*◌, ◌%◌, ◌<◌, ◌≤◌, List, length, get_or, set, sym, ap, ◌∙◌, subst, add-zero, add_assoc, suc-mul, zero-mul, arith, get_or-set_other, get_or-set_same}
use native.Mathlib.Decide.{ℕ_discrete}
use Rattle.field.specs.Meaning.{Meaning, Laws, pow}
use Rattle.field.proofs.Powers as P

-- the first n places hold their powers, and a^e is the next
pub record Powering (f : Meaning) (start step n e : ℕ) (row : List ℕ) : Type 0 where
  pub done : (j : ℕ) → j < n → get_or row j 0 ≡ pow f f.a (start + j * step)
  pub small : e < f.m
  pub next : pow f f.a e ≡ pow f f.a (start + n * step)

module _ (f : Meaning) (l : Laws f) where
  pub pow_back : (n : ℕ) → f.m ≤ n → pow f f.a (n - f.m) ≡ pow f f.a n
  pow_back n h =
      let e : n - f.m + f.m ≡ n = omega arith in
      sym (l.prod_one _ (P.pow_in f l f.a (n - f.m) l.a_high)) ∙ ap (f.prod (pow f f.a (n - f.m))) (sym l.pow_round)
      ∙ sym (P.pow_add f l f.a (n - f.m) f.m l.a_high) ∙ ap (pow f f.a) e

  pub powering_none : (start step : ℕ) (row : List ℕ) (e : ℕ) → e ≡ start % f.m → e < f.m → Powering f start step 0 e row
  powering_none start step row e h k = record {
    done = λ j z. absurd (omega arith);
    small = k;
    next = ap (pow f f.a) h ∙ P.pow_mod f l start ∙ ap (pow f f.a) (sym (add-zero start) ∙ ap (λ (n : ℕ). start + n) (sym (zero-mul step)));
  }

  module _ (start step n e by x : ℕ) (row : List ℕ) (h : n < length row) (s : Powering f start step n e row) (by_is : by ≡ step % f.m) (x-is : x ≡ pow f f.a e) where
    here : (j : ℕ) → j < suc n → get_or (set row n x) j 0 ≡ pow f f.a (start + j * step)
    here j k = elim (ℕ_discrete j n) [
      | yes z ↦ subst (λ i. get_or (set row n x) i 0 ≡ pow f f.a (start + i * step)) (sym z) (get_or-set_same row n x 0 h ∙ x-is ∙ s.next)
      | no z ↦ get_or-set_other row n j x 0 z ∙ s.done j (omega arith)
    ]

    on : pow f f.a (e + by) ≡ pow f f.a (start + suc n * step)
    on =
        let a_in = l.a_high in
        let regroup : start + n * step + step ≡ start + suc n * step = add_assoc start (n * step) step ∙ ap (λ (k : ℕ). start + k) (sym (suc-mul n step)) in
        P.pow_add f l f.a e by a_in ∙ ap (λ (y : ℕ). f.prod y (pow f f.a by)) s.next
        ∙ ap (f.prod (pow f f.a (start + n * step))) (ap (pow f f.a) by_is ∙ P.pow_mod f l step)
        ∙ sym (P.pow_add f l f.a (start + n * step) step a_in) ∙ ap (pow f f.a) regroup

    pub powering_ahead : e + by < f.m → Powering f start step (suc n) (e + by) (set row n x)
    powering_ahead k = record { done = here; small = k; next = on }

    pub powering_round : by < f.m → f.m ≤ e + by → Powering f start step (suc n) (e + by - f.m) (set row n x)
    powering_round b k = record { done = here; small = let t = s.small in omega arith; next = pow_back (e + by) k ∙ on }
