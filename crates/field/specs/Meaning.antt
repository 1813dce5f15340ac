-- What a field means, and the laws that every field keeps.
use Rattle.std.specs.Prelude.{◌≡◌, ℕ, zero, suc, ◌<◌, ◌≤◌, ◌≢◌}

-- The symbols are the numbers below q. a is the step element and m the turn: how many different powers a has.
pub record Meaning : Type 0 where
  pub q : ℕ
  pub a : ℕ
  pub m : ℕ
  pub sum : ℕ → ℕ → ℕ
  pub prod : ℕ → ℕ → ℕ
  pub opp : ℕ → ℕ
  pub recip : ℕ → ℕ

-- x to the n: the product of n factors x, and 1 for n = 0
abbrev pub pow : Meaning → ℕ → ℕ → ℕ
pow f x zero = 1
pow f x (suc n) = f.prod x (pow f x n)

pub record Laws (f : Meaning) : Type 0 where
  pub q_low : 2 ≤ f.q
  pub q_high : f.q ≤ 1024
  pub a_low : 1 ≤ f.a
  pub a_high : f.a < f.q
  pub m_low : 1 ≤ f.m
  pub m_high : f.m < f.q
  -- sums, products, opposites and reciprocals are symbols
  pub sum_in : (x y : ℕ) → x < f.q → y < f.q → f.sum x y < f.q
  pub prod_in : (x y : ℕ) → x < f.q → y < f.q → f.prod x y < f.q
  pub opp_in : (x : ℕ) → x < f.q → f.opp x < f.q
  pub recip_in : (x : ℕ) → x < f.q → x ≢ 0 → f.recip x < f.q
  -- sum and product are commutative and associative
  pub sum_comm : (x y : ℕ) → x < f.q → y < f.q → f.sum x y ≡ f.sum y x
  pub sum_assoc : (x y z : ℕ) → x < f.q → y < f.q → z < f.q → f.sum (f.sum x y) z ≡ f.sum x (f.sum y z)
  pub prod_comm : (x y : ℕ) → x < f.q → y < f.q → f.prod x y ≡ f.prod y x
  pub prod_assoc : (x y z : ℕ) → x < f.q → y < f.q → z < f.q → f.prod (f.prod x y) z ≡ f.prod x (f.prod y z)
  -- 0 is neutral for the sum and 1 for the product
  pub sum_zero : (x : ℕ) → x < f.q → f.sum x 0 ≡ x
  pub prod_one : (x : ℕ) → x < f.q → f.prod x 1 ≡ x
  -- a symbol and its opposite sum to 0; a symbol other than 0 times its reciprocal is 1
  pub sum_opp : (x : ℕ) → x < f.q → f.sum x (f.opp x) ≡ 0
  pub prod_recip : (x : ℕ) → x < f.q → x ≢ 0 → f.prod x (f.recip x) ≡ 1
  -- the product distributes over the sum
  pub distrib : (x y z : ℕ) → x < f.q → y < f.q → z < f.q → f.prod x (f.sum y z) ≡ f.sum (f.prod x y) (f.prod x z)
  -- the powers of a below m are pairwise different and not 0, and a to the m is 1
  pub pow_nonzero : (i : ℕ) → i < f.m → pow f f.a i ≢ 0
  pub pow_apart : (i j : ℕ) → i < f.m → j < f.m → i ≢ j → pow f f.a i ≢ pow f f.a j
  pub pow_round : pow f f.a f.m ≡ 1
