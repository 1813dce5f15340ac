-- The field of sixteen: polynomials over two elements modulo x⁴ + x + 1, which is the number 19.
use Rattle.field.specs.Meaning.{Meaning}
use Rattle.binary.specs.Polynomials.{binary}

abbrev pub sixteen : Meaning
sixteen = binary 4 19
