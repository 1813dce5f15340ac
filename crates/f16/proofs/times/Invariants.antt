use Rattle.std.proofs.Common.{◌≡◌, ◌-◌, ◌<◌}
use lib.Bits.{bit_xor}
use Rattle.binary.specs.Polynomials.{terms, product}
use Rattle.f16.proofs.times.Given as goal

-- the total, with left times the terms of right that are left over, is the product
abbrev pub invariant-loop : goal.invariant-loop
invariant-loop l = (l.left < 16) × (l.total < 16) × (bit_xor l.total (terms 4 19 (4 - l.counter) l.left l.right) ≡ product 4 19 l.v l.w)
