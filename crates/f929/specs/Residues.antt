-- The field of 929: the whole numbers modulo 929.
use Rattle.std.specs.Prelude.{◌+◌, ◌-◌, ◌*◌, ◌%◌}
use Rattle.field.specs.Meaning.{Meaning}
use Rattle.field.specs.Reciprocal.{reciprocal_below}

-- the reciprocal of x is the number below 929 whose product with x is 1
abbrev pub residues : Meaning
residues = record {
  q = 929;
  a = 3;
  m = 928;
  sum = λ x y. (x + y) % 929;
  prod = λ x y. x * y % 929;
  opp = λ x. (929 - x) % 929;
  recip = reciprocal_below (λ x y. x * y % 929) 929;
}
