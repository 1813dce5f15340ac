-- What the laws give, for generic code. Assumes nothing.
use Rattle.std.proofs.Common.{◌≡◌, ℕ, zero, suc, ◌+◌, ◌*◌, ◌/◌, ◌%◌, ◌<◌, List, get_or, sym, ap, ◌∙◌, subst, ap₂, suc-add, mul-zero, zero-add, mul-suc, add-one, arith}
use native.Mathlib.Nat.{div-add-mod}
use Rattle.field.specs.Meaning.{Meaning, Laws, pow}
use Rattle.field.specs.Sums.{sum_of}

module _ (f : Meaning) (l : Laws f) where
  pub zero_in : 0 < f.q
  zero_in = omega (arith, l.q_low)

  one_in : 1 < f.q
  one_in = l.q_low

  pub pow_in : (x n : ℕ) → x < f.q → pow f x n < f.q
  pow_in x zero h = one_in
  pow_in x (suc n) h = l.prod_in x (pow f x n) h (pow_in x n h)

  one_prod : (x : ℕ) → x < f.q → f.prod 1 x ≡ x
  one_prod x h = l.prod_comm 1 x one_in h ∙ l.prod_one x h

  -- 0 times anything
  pub zero_prod : (x : ℕ) → x < f.q → f.prod 0 x ≡ 0
  zero_prod x h =
      let z = f.prod x 0 in
      let z_in : z < f.q = l.prod_in x 0 h zero_in in
      let twice : z ≡ f.sum z z = ap (f.prod x) (sym (l.sum_zero 0 zero_in)) ∙ l.distrib x 0 0 h zero_in zero_in in
      l.prod_comm 0 x zero_in h
      ∙ sym (l.sum_zero z z_in) ∙ ap (f.sum z) (sym (l.sum_opp z z_in)) ∙ sym (l.sum_assoc z z (f.opp z) z_in z_in (l.opp_in z z_in))
      ∙ ap (λ (y : ℕ). f.sum y (f.opp z)) (sym twice) ∙ l.sum_opp z z_in

  pub pow_add : (x i j : ℕ) → x < f.q → pow f x (i + j) ≡ f.prod (pow f x i) (pow f x j)
  pow_add x zero j h = ap (pow f x) (zero-add j) ∙ sym (one_prod (pow f x j) (pow_in x j h))
  pow_add x (suc i) j h =
      ap (pow f x) (suc-add i j) ∙ ap (f.prod x) (pow_add x i j h)
      ∙ sym (l.prod_assoc x (pow f x i) (pow f x j) h (pow_in x i h) (pow_in x j h))

  -- a to a multiple of m is 1
  pow_turns : (k : ℕ) → pow f f.a (f.m * k) ≡ 1
  pow_turns zero = ap (pow f f.a) (mul-zero f.m)
  pow_turns (suc k) =
      ap (pow f f.a) (mul-suc f.m k) ∙ pow_add f.a (f.m * k) f.m l.a_high
      ∙ ap (λ (y : ℕ). f.prod y (pow f f.a f.m)) (pow_turns k)
      ∙ ap (f.prod 1) l.pow_round ∙ l.prod_one 1 one_in

  pub pow_mod : (n : ℕ) → pow f f.a (n % f.m) ≡ pow f f.a n
  pow_mod n =
      sym (one_prod _ (pow_in f.a (n % f.m) l.a_high))
      ∙ ap (λ (y : ℕ). f.prod y (pow f f.a (n % f.m))) (sym (pow_turns (n / f.m)))
      ∙ sym (pow_add f.a (f.m * (n / f.m)) (n % f.m) l.a_high)
      ∙ ap (pow f f.a) (div-add-mod n f.m)

  -- one turn of a loop that adds products
  pub weighed_more : (ws : List ℕ) (t i total power product sum : ℕ) → get_or ws i 0 < f.q
      → (total < f.q) × (total ≡ sum_of f i (λ k. f.prod (get_or ws k 0) (pow f f.a (k * t))))
      → power ≡ pow f f.a (i * t % f.m)
      → (power < f.q → product ≡ f.prod (get_or ws i 0) power)
      → (product < f.q → sum ≡ f.sum total product)
      → (sum < f.q) × (sum ≡ sum_of f (i + 1) (λ k. f.prod (get_or ws k 0) (pow f f.a (k * t))))
  weighed_more ws t i total power product sum w_in inv power_is product-by sum_by =
      let w = get_or ws i 0 in
      let P : ℕ → Type 0 = λ n. n < f.q in
      let power_to : power ≡ pow f f.a (i * t) = power_is ∙ pow_mod (i * t) in
      let power_in : power < f.q = subst P (sym power_to) (pow_in f.a (i * t) l.a_high) in
      let product_is : product ≡ f.prod w power = product-by power_in in
      let product_in : product < f.q = subst P (sym product_is) (l.prod_in w power w_in power_in) in
      let sum_is : sum ≡ f.sum total product = sum_by product_in in (
        subst P (sym sum_is) (l.sum_in total product inv.0 product_in),
        simp add-one (sum_is ∙ ap₂ f.sum inv.1 (product_is ∙ ap (f.prod w) power_to)),
      )
