-- The value of a row at a^t, coefficient by coefficient, with an exponent that goes round.
use Rattle.std.proofs.Common.{◌≡◌, ℕ, suc, ◌+◌, ◌-◌, ◌*◌, ◌%◌, ◌<◌, ◌≤◌, List, length, get_or, sym, refl, ap, ◌∙◌, subst, ap₂, suc-mul, zero-mul, mod-lt, ⊎_elim, arith}
use Rattle.std.proofs.lemmas.Bool.{cases_lt}
use Rattle.field.specs.Meaning.{Meaning, Laws, pow}
use Rattle.field.specs.Symbols.{known}
use Rattle.field.specs.Sums.{sum_of, weighed}
use Rattle.field.proofs.Powers as P
use Rattle.field.proofs.Symbols.{known_symbol, known_other, known_length}

-- total is the value of the first n coefficients at a^t, and a^e the next power
pub record Rounding (f : Meaning) (row : List ℕ) (t n total e : ℕ) : Type 0 where
  pub inside : total < f.q
  pub is : total ≡ sum_of f n (λ i. f.prod (get_or (known f.q row) i 0) (pow f f.a (i * t)))
  pub small : e < f.m
  pub turned : pow f f.a e ≡ pow f f.a (n * t)

module _ (f : Meaning) (l : Laws f) where
  pub rounding_none : (row : List ℕ) (t : ℕ) → Rounding f row t 0 0 0
  rounding_none row t = record { inside = P.zero_in f l; is = refl; small = omega (arith, l.m_low); turned = sym (ap (pow f f.a) (zero-mul t)) }

  pub rounding_all : (row : List ℕ) (t n total e : ℕ) → n ≡ length row → Rounding f row t n total e → total ≡ weighed f (known f.q row) t
  rounding_all row t n total e all v =
      v.is ∙ ap (λ k. sum_of f k (λ i. f.prod (get_or (known f.q row) i 0) (pow f f.a (i * t)))) (all ∙ sym (known_length f.q row))

  pow_back : (n : ℕ) → f.m ≤ n → pow f f.a (n - f.m) ≡ pow f f.a n
  pow_back n h =
      let e : n - f.m + f.m ≡ n = omega arith in
      sym (l.prod_one _ (P.pow_in f l f.a (n - f.m) l.a_high)) ∙ ap (f.prod (pow f f.a (n - f.m))) (sym l.pow_round)
      ∙ sym (P.pow_add f l f.a (n - f.m) f.m l.a_high) ∙ ap (pow f f.a) e

  -- the product that is answered for a number x that stands at place n
  counted : (row : List ℕ) (n power product : ℕ) → power < f.q
      → (get_or row n 0 < f.q → power < f.q → product ≡ f.prod (get_or row n 0) power) → (f.q ≤ get_or row n 0 → product ≡ 0)
      → product ≡ f.prod (get_or (known f.q row) n 0) power
  counted row n power product power_in within beyond =
      ⊎_elim
      (λ lt. within lt power_in ∙ ap (λ (x : ℕ). f.prod x power) (sym (known_symbol f.q row n lt)))
      (λ ge. beyond ge ∙ sym (ap (λ (x : ℕ). f.prod x power) (known_other f.q row n ge) ∙ P.zero_prod f l power power_in))
      (cases_lt (get_or row n 0) f.q)

  known_in : (row : List ℕ) (n : ℕ) → get_or (known f.q row) n 0 < f.q
  known_in row n =
      let In : ℕ → Type 0 = λ x. x < f.q in
      ⊎_elim (λ lt. subst In (sym (known_symbol f.q row n lt)) lt) (λ ge. subst In (sym (known_other f.q row n ge)) (P.zero_in f l)) (cases_lt (get_or row n 0) f.q)

  module _ (row : List ℕ) (t n total e by : ℕ) (v : Rounding f row t n total e) (by_is : by ≡ t % f.m) where
    on : pow f f.a (e + by) ≡ pow f f.a (suc n * t)
    on =
        P.pow_add f l f.a e by l.a_high ∙ ap₂ f.prod v.turned (ap (pow f f.a) by_is ∙ P.pow_mod f l t)
        ∙ sym (P.pow_add f l f.a (n * t) t l.a_high) ∙ ap (pow f f.a) (sym (suc-mul n t))

    module _ (power product sum : ℕ) (power_is : power ≡ pow f f.a e)
        (within : get_or row n 0 < f.q → power < f.q → product ≡ f.prod (get_or row n 0) power) (beyond : f.q ≤ get_or row n 0 → product ≡ 0)
        (sum_by : product < f.q → sum ≡ f.sum total product) where
      next : (e' : ℕ) → e' < f.m → pow f f.a e' ≡ pow f f.a (suc n * t) → Rounding f row t (suc n) sum e'
      next e' h turned =
          let In : ℕ → Type 0 = λ x. x < f.q in
          let power_to : power ≡ pow f f.a (n * t) = power_is ∙ v.turned in
          let power_in : power < f.q = subst In (sym power_to) (P.pow_in f l f.a (n * t) l.a_high) in
          let product_is = counted row n power product power_in within beyond in
          let product_in : product < f.q = subst In (sym product_is) (l.prod_in _ _ (known_in row n) power_in) in
          let sum_is_lem = sum_by product_in in
          record {
            inside = subst In (sym sum_is_lem) (l.sum_in _ _ v.inside product_in);
            is = sum_is_lem ∙ ap₂ f.sum v.is (product_is ∙ ap (f.prod (get_or (known f.q row) n 0)) power_to);
            small = h;
            turned = turned;
          }

      pub rounding_back : f.m ≤ e + by → Rounding f row t (suc n) sum (e + by - f.m)
      rounding_back far = next (e + by - f.m) (let s = v.small in let b : by < f.m = subst (λ (k : ℕ). k < f.m) (sym by_is) (mod-lt t (omega (arith, l.m_low))) in omega arith) (pow_back (e + by) far ∙ on)

      pub rounding_ahead : e + by < f.m → Rounding f row t (suc n) sum (e + by)
      rounding_ahead near = next (e + by) near on
