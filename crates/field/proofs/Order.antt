-- That the powers of a below m are not 0 and all different, from one test: none of a¹ .. a^(m - 1) is 1.
use Rattle.std.proofs.Common.{◌≡◌, ℕ, zero, suc, ◌+◌, ◌-◌, ◌<◌, Bool, true, not, ◌&&◌, eqb, ◌≢◌, sym, ap, ◌∙◌, add-zero, add-suc, suc-add, zero-add, arith}
use native.Mathlib.Omega.{ne_cases}
use Rattle.std.proofs.lemmas.Bool.{both_ways, not-true, and_parts, eq-eqb}
use Rattle.field.specs.Meaning.{Meaning, pow}

-- whether none of the n numbers x, a · x, a · a · x, .. is 1
abbrev pub no_one : Meaning → ℕ → ℕ → Bool
no_one f zero x = true
no_one f (suc n) x = not (eqb x 1) && no_one f n (f.prod f.a x)

no_one_at : (f : Meaning) (n i k : ℕ) → no_one f n (pow f f.a i) ≡ true → k < n → pow f f.a (i + k) ≢ 1
no_one_at f zero i k t h e = omega arith
no_one_at f (suc n) i zero t h e =
    both_ways _ (not-true _ (and_parts (not (eqb (pow f f.a i) 1)) _ t).0) (eq-eqb _ 1 (ap (pow f f.a) (sym (add-zero i)) ∙ e))
no_one_at f (suc n) i (suc k) t h e =
    no_one_at f n (suc i) k (and_parts (not (eqb (pow f f.a i) 1)) _ t).1 (omega arith) (ap (pow f f.a) (suc-add i k ∙ sym (add-suc i k)) ∙ e)

-- the m - 1 powers from the first on
pub early_from : (f : Meaning) → no_one f (f.m - 1) (pow f f.a 1) ≡ true → (k : ℕ) → 0 < k → k < f.m → pow f f.a k ≢ 1
early_from f t k pos h e =
    let s : 1 + (k - 1) ≡ k = omega arith in
    no_one_at f (f.m - 1) 1 (k - 1) t (omega arith) (ap (pow f f.a) s ∙ e)

-- the laws that the argument takes
pub record Multiplies (f : Meaning) : Type 0 where
  pub one_in : 1 < f.q
  pub a_in : f.a < f.q
  pub prod_in : (x y : ℕ) → x < f.q → y < f.q → f.prod x y < f.q
  pub prod_assoc : (x y z : ℕ) → x < f.q → y < f.q → z < f.q → f.prod (f.prod x y) z ≡ f.prod x (f.prod y z)
  pub one_prod : (x : ℕ) → x < f.q → f.prod 1 x ≡ x
  pub prod_one : (x : ℕ) → x < f.q → f.prod x 1 ≡ x
  pub zero_prod : (x : ℕ) → x < f.q → f.prod 0 x ≡ 0
  pub round : pow f f.a f.m ≡ 1
  pub early : (k : ℕ) → 0 < k → k < f.m → pow f f.a k ≢ 1

module _ (f : Meaning) (l : Multiplies f) where
  up : ℕ → ℕ
  up n = pow f f.a n

  up_in : (n : ℕ) → pow f f.a n < f.q
  up_in zero = l.one_in
  up_in (suc n) = l.prod_in f.a (pow f f.a n) l.a_in (up_in n)

  up_add : (i j : ℕ) → pow f f.a (i + j) ≡ f.prod (pow f f.a i) (pow f f.a j)
  up_add zero j = ap (pow f f.a) (zero-add j) ∙ sym (l.one_prod (pow f f.a j) (up_in j))
  up_add (suc i) j =
      ap (pow f f.a) (suc-add i j) ∙ ap (f.prod f.a) (up_add i j)
      ∙ sym (l.prod_assoc f.a (pow f f.a i) (pow f f.a j) l.a_in (up_in i) (up_in j))

  -- a^(m - i) undoes a^i
  undo : (i : ℕ) → i < f.m → f.prod (pow f f.a (f.m - i)) (pow f f.a i) ≡ 1
  undo i h =
      let e : f.m - i + i ≡ f.m = omega arith in
      sym (up_add (f.m - i) i) ∙ ap (pow f f.a) e ∙ l.round

  pub nonzero : (i : ℕ) → i < f.m → pow f f.a i ≢ 0
  nonzero i h z =
      let e : i + (f.m - i) ≡ f.m = omega arith in
      let w : ◌≡◌ {A = ℕ} 0 1 = sym (l.zero_prod (pow f f.a (f.m - i)) (up_in (f.m - i)))
      ∙ ap (λ (y : ℕ). f.prod y (pow f f.a (f.m - i))) (sym z) ∙ sym (up_add i (f.m - i)) ∙ ap (pow f f.a) e ∙ l.round in
      omega arith

  -- a^(i + d) = a^i only where a^d = 1
  later : (i d : ℕ) → i < f.m → 0 < d → d < f.m → pow f f.a i ≢ pow f f.a (i + d)
  later i d h pos hd e =
      l.early d pos hd
      (sym (l.one_prod (pow f f.a d) (up_in d)) ∙ ap (λ (y : ℕ). f.prod y (pow f f.a d)) (sym (undo i h))
      ∙ l.prod_assoc (pow f f.a (f.m - i)) (pow f f.a i) (pow f f.a d) (up_in (f.m - i)) (up_in i) (up_in d)
      ∙ ap (f.prod (pow f f.a (f.m - i))) (sym (up_add i d) ∙ sym e) ∙ undo i h)

  pub apart : (i j : ℕ) → i < f.m → j < f.m → i ≢ j → pow f f.a i ≢ pow f f.a j
  apart i j hi hj ne e =
      ne_cases i j ⊥ ne
      (λ h. let s : i + (j - i) ≡ j = omega arith in later i (j - i) hi (omega arith) (omega arith) (e ∙ ap (pow f f.a) (sym s)))
      (λ h. let s : j + (i - j) ≡ i = omega arith in later j (i - j) hj (omega arith) (omega arith) (sym e ∙ ap (pow f f.a) (sym s)))
