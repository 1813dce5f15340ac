-- The rows over the field of 256.
use Rattle.std.proofs.Common.{[], ◌∷◌, refl, lit<, lit≤}
use Rattle.binary.specs.Polynomials.{shifted, product}
use Rattle.f256.specs.Bytes.{bytes}
use Rattle.f256.specs.BytesLemmas.{bytes_laws}
use Rattle.examples.specs.Rows.{Holds, on_bay, correct_gives, correct_answers}
use Rattle.examples.specs.Table.{reel}
use Rattle.examples.proofs.InReach.{correct_row}
use Rattle.examples.proofs.OutOfReach.{refused_row, too_close}

pub one_lost : Holds (on_bay bytes reel (0 ∷ 14 ∷ 7 ∷ 0 ∷ []) (0 ∷ []) (correct_gives (8 ∷ 14 ∷ 7 ∷ 1 ∷ []) (2 ∷ 1 ∷ 0 ∷ 3 ∷ 0 ∷ 0 ∷ [])))
unfolding shifted product
one_lost = correct_row bytes bytes_laws reel (lit≤ tt) (0 ∷ 14 ∷ 7 ∷ 0 ∷ []) (0 ∷ []) _ _ refl refl refl refl refl

-- the codeword 8 14 7 1 differs at one unmarked position
pub two_lost : Holds (on_bay bytes reel (0 ∷ 14 ∷ 7 ∷ 0 ∷ []) (0 ∷ 1 ∷ []) (correct_answers 12))
unfolding shifted product
two_lost =
    refused_row bytes reel (0 ∷ 14 ∷ 7 ∷ 0 ∷ []) (0 ∷ 1 ∷ [])
    (too_close bytes reel (0 ∷ 14 ∷ 7 ∷ 0 ∷ []) (0 ∷ 1 ∷ []) bytes_laws (lit≤ tt) 0 (8 ∷ 14 ∷ 7 ∷ 1 ∷ []) refl refl refl (lit< tt) (lit< tt) (lit≤ tt))
