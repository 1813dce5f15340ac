-- The laws at degree 8 and modulus 285: the tests that they rest on, computed.
use Rattle.std.specs.Prelude.{◌≡◌, ℕ, refl}
use Rattle.std.proofs.Common.{lit<, lit≤}
use Rattle.field.specs.Meaning.{Laws}
use Rattle.binary.specs.Polynomials.{shifted, product}
use Rattle.binary.proofs.Laws as L
use Rattle.f256.specs.Bytes.{bytes}

passes : L.Passes 8 285
unfolding shifted product
passes = record { degree = lit< tt; low = lit< tt; high = lit≤ tt; shifted_in = refl; one = refl; round = refl; early = refl; turned = refl }

pub bytes_laws : Laws bytes
bytes_laws = L.laws 8 285 passes

pub zero_left : (v : ℕ) → product 8 285 0 v ≡ 0
zero_left = L.zero_left 8 285 passes
