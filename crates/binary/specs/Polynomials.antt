-- Polynomials over two elements, written as numbers: bit i is the coefficient of x^i. Products are modulo a polynomial p of degree k.
use Rattle.std.specs.Prelude.{ℕ, zero, suc, ◌-◌, ◌*◌, ◌/◌, ◌%◌, ◌^◌, cond, ◌==◌, bit_xor}
use Rattle.field.specs.Meaning.{Meaning}
use Rattle.field.specs.Reciprocal.{reciprocal_below}

-- v times x: moved up by one place, less p where v has the degree k - 1
unfoldable pub shifted : ℕ → ℕ → ℕ → ℕ
shifted k p v = bit_xor (v * 2) (cond (v / 2 ^ (k - 1) == 1) p 0)

-- v times the n lowest terms of w: shift and add
abbrev pub terms : ℕ → ℕ → ℕ → ℕ → ℕ → ℕ
terms k p zero v w = 0
terms k p (suc n) v w = bit_xor (cond (w % 2 == 1) v 0) (terms k p n (shifted k p v) (w / 2))

-- v times w
unfoldable pub product : ℕ → ℕ → ℕ → ℕ → ℕ
product k p v w = terms k p k v w

-- The field of these polynomials: the step element is x, the number 2. A symbol is its own opposite.
abbrev pub binary : ℕ → ℕ → Meaning
binary k p = record {
  q = 2 ^ k;
  a = 2;
  m = 2 ^ k - 1;
  sum = bit_xor;
  prod = product k p;
  opp = λ v. v;
  recip = reciprocal_below (product k p) (2 ^ k);
}
