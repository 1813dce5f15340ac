-- The rows over the field of 16.
use Rattle.std.proofs.Common.{ℕ, List, [], ◌∷◌, replicate, pos, neg_ℤ, refl, lit<, lit≤}
use Rattle.binary.specs.Polynomials.{shifted, product}
use Rattle.f16.specs.Sixteen.{sixteen}
use Rattle.f16.specs.SixteenLemmas.{sixteen_laws}
use Rattle.solver.specs.Pairs.{left, right, Least}
use Rattle.solver.specs.declared.Side.TheVariants.{Left, Right}
use Rattle.examples.specs.Rows.{Holds, on_bay, on_solve, correct_gives}
use Rattle.examples.specs.Table.{control}
use Rattle.examples.proofs.InReach.{correct_row}
use Rattle.examples.proofs.Leading.{counts, least_left, least_right}

pub two_wrong : Holds (on_bay sixteen control (0 ∷ 0 ∷ 1 ∷ 0 ∷ 0 ∷ 0 ∷ 0 ∷ 1 ∷ 0 ∷ 0 ∷ 0 ∷ 0 ∷ 0 ∷ 0 ∷ 0 ∷ []) [] (correct_gives (replicate 15 0) (2 ∷ 0 ∷ 2 ∷ 7 ∷ 1 ∷ 1 ∷ [])))
unfolding shifted product
two_wrong = correct_row sixteen sixteen_laws control (lit≤ tt) (0 ∷ 0 ∷ 1 ∷ 0 ∷ 0 ∷ 0 ∷ 0 ∷ 1 ∷ 0 ∷ 0 ∷ 0 ∷ 0 ∷ 0 ∷ 0 ∷ 0 ∷ []) [] _ _ refl refl refl refl refl

abbrev sums : List ℕ
sums = 15 ∷ 10 ∷ 0 ∷ 8 ∷ 1 ∷ 0 ∷ []

-- the other pair is (8 x³ + x⁴, 12 x³)
key_least : Least sixteen 6 (neg_ℤ (pos 1)) sums (8 ∷ 0 ∷ 0 ∷ 0 ∷ 0 ∷ 0 ∷ 0 ∷ []) (12 ∷ 8 ∷ 1 ∷ 0 ∷ 0 ∷ 0 ∷ 0 ∷ []) (right 2)
unfolding shifted product
key_least =
    least_right sixteen sixteen_laws 6 (neg_ℤ (pos 1)) sums 0 1 refl refl (0 ∷ 0 ∷ 0 ∷ 8 ∷ 1 ∷ []) (0 ∷ 0 ∷ 0 ∷ 12 ∷ []) _ _ 4 2 4 1 refl refl refl (lit≤ tt) (lit≤ tt) (lit< tt) refl

pub key : Holds (on_solve sixteen sums 6 (neg_ℤ (pos 1)) (8 ∷ []) (12 ∷ 8 ∷ 1 ∷ []) (1, 3, Right))
key = (refl, record { lead = right 2; least = key_least; on = refl; left_counted = counts _ 1 refl; right_counted = counts _ 3 refl; left_kept = refl; right_kept = refl })

-- of a ≡ 0 modulo x, the pairs (x, 0) and (0, 1): which is lower depends on the order
zero_right_least : Least sixteen 1 (pos 0) (0 ∷ []) (0 ∷ 0 ∷ []) (1 ∷ 0 ∷ []) (right 0)
unfolding shifted product
zero_right_least =
    least_right sixteen sixteen_laws 1 (pos 0) (0 ∷ []) 0 0 refl refl (0 ∷ 1 ∷ []) [] _ _ 1 0 0 0 refl refl refl (lit≤ tt) (lit≤ tt) (lit< tt) refl

pub zero_right : Holds (on_solve sixteen (0 ∷ []) 1 (pos 0) [] (1 ∷ []) (0, 1, Right))
zero_right = (refl, record { lead = right 0; least = zero_right_least; on = refl; left_counted = counts _ 0 refl; right_counted = counts _ 1 refl; left_kept = refl; right_kept = refl })

zero_left_least : Least sixteen 1 (pos 1) (0 ∷ []) (0 ∷ 1 ∷ []) (0 ∷ 0 ∷ []) (left 1)
unfolding shifted product
zero_left_least =
    least_left sixteen sixteen_laws 1 (pos 1) (0 ∷ []) 1 0 refl refl _ _ [] (1 ∷ []) 1 0 0 0 refl refl refl (lit≤ tt) (lit≤ tt) (lit≤ tt) refl

pub zero_left : Holds (on_solve sixteen (0 ∷ []) 1 (pos 1) (0 ∷ 1 ∷ []) [] (2, 0, Left))
zero_left = (refl, record { lead = left 1; least = zero_left_least; on = refl; left_counted = counts _ 2 refl; right_counted = counts _ 0 refl; left_kept = refl; right_kept = refl })
