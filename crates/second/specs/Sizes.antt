-- How many symbols each of the three fields has, its step element, and its sums and opposites.
use Rattle.std.specs.Prelude.{ℕ, ◌+◌, ◌-◌, ◌%◌, cond, ◌||◌, nat_le, bit_xor}
use Rattle.second.specs.declared.arithmetic.Kind.{Kind}
use Rattle.second.specs.declared.arithmetic.Kind.TheVariants.{Residues, Bytes, Nibbles}

abbrev pub size : Kind → ℕ
size Residues = 929
size Bytes = 256
size Nibbles = 16

abbrev pub step : Kind → ℕ
step Residues = 3
step Bytes = 2
step Nibbles = 2

-- the sum of two symbols
abbrev pub added : Kind → ℕ → ℕ → ℕ
added Residues x y = (x + y) % 929
added Bytes x y = bit_xor x y % 256
added Nibbles x y = bit_xor x y % 16

-- the sum, and 0 where a number is no symbol
abbrev pub sum : Kind → ℕ → ℕ → ℕ
sum k x y = cond (nat_le (size k) x || nat_le (size k) y) 0 (added k x y)

-- the symbol whose sum with a symbol is 0
abbrev pub opposed : Kind → ℕ → ℕ
opposed Residues x = (929 - x) % 929
opposed Bytes x = x
opposed Nibbles x = x

-- that, and 0 where the number is no symbol
abbrev pub opposite : Kind → ℕ → ℕ
opposite k x = cond (nat_le (size k) x) 0 (opposed k x)
