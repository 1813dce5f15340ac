-- The rows over the field of 929.
use Rattle.std.proofs.Common.{ℕ, ◌+◌, ◌*◌, ◌≤◌, Bool, true, false, cond, not, eqb, ◌⊎◌, List, [], ◌∷◌, get_or, refl, inl, inr, ⊎_elim, arith, lit<, lit≤}
use Rattle.f929.specs.Residues.{residues}
use Rattle.f929.specs.ResiduesLemmas.{residues_laws}
use Rattle.examples.specs.Rows.{Holds, on_bay, test_absent, encode_gives, correct_gives, correct_answers}
use Rattle.examples.specs.Table.{label}
use Rattle.examples.proofs.InReach.{test_row, encode_row, correct_row}
use Rattle.examples.proofs.OutOfReach.{NoneNear, refused_row, too_many, too_close}

pub clean : Holds (on_bay residues label (27 ∷ 917 ∷ 1 ∷ []) [] test_absent)
clean = test_row residues residues_laws label (lit≤ tt) (27 ∷ 917 ∷ 1 ∷ []) [] refl

pub one_wrong : Holds (on_bay residues label (27 ∷ 0 ∷ 1 ∷ []) [] (correct_gives (27 ∷ 917 ∷ 1 ∷ []) (1 ∷ 0 ∷ 1 ∷ 0 ∷ [])))
one_wrong = correct_row residues residues_laws label (lit≤ tt) (27 ∷ 0 ∷ 1 ∷ []) [] _ _ refl refl refl refl refl

pub two_lost : Holds (on_bay residues label (1 ∷ 1 ∷ 0 ∷ []) (0 ∷ 1 ∷ []) (correct_gives (0 ∷ 0 ∷ 0 ∷ []) (2 ∷ 2 ∷ 0 ∷ 1 ∷ 1 ∷ 1 ∷ [])))
two_lost = correct_row residues residues_laws label (lit≤ tt) (1 ∷ 1 ∷ 0 ∷ []) (0 ∷ 1 ∷ []) _ _ refl refl refl refl refl

pub two_filled : Holds (on_bay residues label (5 ∷ 0 ∷ 1 ∷ []) (0 ∷ 1 ∷ []) (correct_gives (27 ∷ 917 ∷ 1 ∷ []) (2 ∷ 2 ∷ 0 ∷ 1 ∷ 5 ∷ 0 ∷ [])))
two_filled = correct_row residues residues_laws label (lit≤ tt) (5 ∷ 0 ∷ 1 ∷ []) (0 ∷ 1 ∷ []) _ _ refl refl refl refl refl

pub checks_laid : Holds (on_bay residues label (0 ∷ 0 ∷ 1 ∷ []) [] (encode_gives (27 ∷ 917 ∷ 1 ∷ [])))
checks_laid = encode_row residues residues_laws label (lit≤ tt) (0 ∷ 0 ∷ 1 ∷ []) [] _ refl refl refl refl

abbrev two_ones : List ℕ
two_ones = 1 ∷ 1 ∷ 0 ∷ []

-- with one position marked, 0 0 0 or 1 206 757 differs at one more
lost_0 : NoneNear residues label two_ones (0 ∷ [])
lost_0 = too_close residues label two_ones (0 ∷ []) residues_laws (lit≤ tt) 0 (0 ∷ 0 ∷ 0 ∷ []) refl refl refl (lit< tt) (lit< tt) (lit≤ tt)

lost_1 : NoneNear residues label two_ones (1 ∷ [])
lost_1 = too_close residues label two_ones (1 ∷ []) residues_laws (lit≤ tt) 0 (0 ∷ 0 ∷ 0 ∷ []) refl refl refl (lit< tt) (lit< tt) (lit≤ tt)

lost_2 : NoneNear residues label two_ones (2 ∷ [])
lost_2 = too_close residues label two_ones (2 ∷ []) residues_laws (lit≤ tt) 0 (1 ∷ 206 ∷ 757 ∷ []) refl refl refl (lit< tt) (lit< tt) (lit≤ tt)

abbrev wrong : Bool → ℕ
wrong same = cond (not same) 1 0

-- where at most one of three positions is wrong, it may as well be marked
may_mark : (x y z : Bool) → 2 * (0 + wrong x + wrong y + wrong z) + 0 ≤ 2
    → (2 * (0 + 0 + wrong y + wrong z) + 1 ≤ 2) ⊎ ((2 * (0 + wrong x + 0 + wrong z) + 1 ≤ 2) ⊎ (2 * (0 + wrong x + wrong y + 0) + 1 ≤ 2))
may_mark false false z h = absurd (omega arith)
may_mark false true false h = absurd (omega arith)
may_mark false true true h = inl (lit≤ tt)
may_mark true false false h = absurd (omega arith)
may_mark true false true h = inr (inl (lit≤ tt))
may_mark true true z h = inr (inr (lit≤ tt))

none_lost : NoneNear residues label two_ones []
none_lost u near =
    ⊎_elim (λ h. lost_0 u (record { word = near.word; codeword = near.codeword; reach = h }))
    (⊎_elim (λ h. lost_1 u (record { word = near.word; codeword = near.codeword; reach = h })) (λ h. lost_2 u (record { word = near.word; codeword = near.codeword; reach = h })))
    (may_mark (eqb (get_or u 0 0) 1) (eqb (get_or u 1 0) 1) (eqb (get_or u 2 0) 0) near.reach)

pub too_far : Holds (on_bay residues label (1 ∷ 1 ∷ 0 ∷ []) [] (correct_answers 12))
too_far = refused_row residues label two_ones [] none_lost

pub too_far_with_one : Holds (on_bay residues label (1 ∷ 1 ∷ 0 ∷ []) (0 ∷ []) (correct_answers 12))
too_far_with_one = refused_row residues label two_ones (0 ∷ []) lost_0

pub all_lost : Holds (on_bay residues label (1 ∷ 1 ∷ 0 ∷ []) (0 ∷ 1 ∷ 2 ∷ []) (correct_answers 12))
all_lost = refused_row residues label two_ones (0 ∷ 1 ∷ 2 ∷ []) (too_many residues label two_ones (0 ∷ 1 ∷ 2 ∷ []) (lit< tt))
