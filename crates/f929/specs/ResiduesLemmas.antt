-- The laws modulo 929.
use Rattle.std.specs.Prelude.{◌≡◌, ℕ, ◌+◌, ◌-◌, ◌*◌, ◌%◌, ◌<◌, true, refl}
use Rattle.std.proofs.Common.{sym, ap, ◌∙◌, mod-lt, add_assoc, add_comm, mul_comm, mul_assoc, mul-add, mul-one, one-mul, zero-mul, mod-eq_of_lt, arith, lit<, lit≤}
use Rattle.std.proofs.Math.Nat.{mod-add-mod, add-mod-mod, add-mod}
use Rattle.field.specs.Meaning.{Laws, pow}
use Rattle.field.proofs.Order.{Multiplies, early_from, nonzero, apart}
use Rattle.field.proofs.Reciprocals.{all_turned, recip_found}
use Rattle.f929.specs.Residues.{residues}
use Rattle.std.proofs.lemmas.Nat.{mul-mod_first, mul-mod_second}

small : (n : ℕ) → n % 929 < 929
small n = mod-lt n (lit< tt)

sum_assoc : (x y z : ℕ) → ((x + y) % 929 + z) % 929 ≡ (x + (y + z) % 929) % 929
sum_assoc x y z = mod-add-mod (x + y) 929 z ∙ ap (λ (n : ℕ). n % 929) (add_assoc x y z) ∙ sym (add-mod-mod x (y + z) 929)

prod_assoc : (x y z : ℕ) → x * y % 929 * z % 929 ≡ x * (y * z % 929) % 929
prod_assoc x y z = mul-mod_first (x * y) z 929 ∙ ap (λ (n : ℕ). n % 929) (mul_assoc x y z) ∙ sym (mul-mod_second x (y * z) 929)

prod_one : (x : ℕ) → x < 929 → x * 1 % 929 ≡ x
prod_one x h = ap (λ (n : ℕ). n % 929) (mul-one x) ∙ mod-eq_of_lt h

distrib : (x y z : ℕ) → x * ((y + z) % 929) % 929 ≡ (x * y % 929 + x * z % 929) % 929
distrib x y z = mul-mod_second x (y + z) 929 ∙ ap (λ (n : ℕ). n % 929) (mul-add x y z) ∙ add-mod (x * y) (x * z) 929

-- the computed test: each number but 0 gives 1 with its power 927
turned : all_turned residues 10 ≡ true
turned = refl

round : pow residues 3 928 ≡ 1
round = refl

multiplies : Multiplies residues
multiplies = record {
  one_in = lit< tt;
  a_in = lit< tt;
  prod_in = λ x y hx hy. small (x * y);
  prod_assoc = λ x y z hx hy hz. prod_assoc x y z;
  one_prod = λ x hx. ap (λ (n : ℕ). n % 929) (one-mul x) ∙ mod-eq_of_lt hx;
  prod_one = prod_one;
  zero_prod = λ x hx. ap (λ (n : ℕ). n % 929) (zero-mul x);
  round = round;
  early = early_from residues refl;
}

pub residues_laws : Laws residues
residues_laws = record {
  q_low = lit≤ tt;
  q_high = lit≤ tt;
  a_low = lit≤ tt;
  a_high = lit< tt;
  m_low = lit≤ tt;
  m_high = lit< tt;
  sum_in = λ x y hx hy. small (x + y);
  prod_in = λ x y hx hy. small (x * y);
  opp_in = λ x hx. small (929 - x);
  recip_in = λ x hx nz. (recip_found residues 10 turned x hx nz).0;
  sum_comm = λ x y hx hy. ap (λ (n : ℕ). n % 929) (add_comm x y);
  sum_assoc = λ x y z hx hy hz. sum_assoc x y z;
  prod_comm = λ x y hx hy. ap (λ (n : ℕ). n % 929) (mul_comm x y);
  prod_assoc = λ x y z hx hy hz. prod_assoc x y z;
  sum_zero = λ x hx. omega arith;
  prod_one = prod_one;
  sum_opp = λ x hx. omega arith;
  prod_recip = λ x hx nz. (recip_found residues 10 turned x hx nz).1;
  distrib = λ x y z hx hy hz. distrib x y z;
  pow_nonzero = nonzero residues multiplies;
  pow_apart = apart residues multiplies;
  pow_round = round;
}
