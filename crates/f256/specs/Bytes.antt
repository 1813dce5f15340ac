-- The field of 256: polynomials over two elements modulo x⁸ + x⁴ + x³ + x² + 1, which is the number 285.
use Rattle.field.specs.Meaning.{Meaning}
use Rattle.binary.specs.Polynomials.{binary}

abbrev pub bytes : Meaning
bytes = binary 8 285
