-- The worked examples.
use Rattle.std.specs.Prelude.{List, [], ◌∷◌, replicate, pos, neg_ℤ}
use Rattle.std.specs.List.{AllByRecursion}
use Rattle.code.specs.Shape.{Shape}
use Rattle.f16.specs.Sixteen.{sixteen}
use Rattle.f256.specs.Bytes.{bytes}
use Rattle.f929.specs.Residues.{residues}
use Rattle.solver.specs.declared.Side.TheVariants.{Left, Right}
use Rattle.examples.specs.Rows.{Row, on_bay, on_solve, test_absent, encode_gives, correct_gives, correct_answers, Holds}

-- a label of three symbols, two of them checks
abbrev pub label : Shape
label = record { n = 3; checks = 2; first = 1 }

-- a control word of fifteen symbols, six of them checks
abbrev pub control : Shape
control = record { n = 15; checks = 6; first = 1 }

-- a reel's word of four symbols, three of them checks
abbrev pub reel : Shape
reel = record { n = 4; checks = 3; first = 0 }

-- Of each row on a bay: the field, the code, the word, the positions that are marked, and what the call gives; a corrected word is followed
-- by the report. Of each row on solve: the field, g, its count n, the order r, the two halves of the pair, and the answer.
abbrev pub table : List Row
table =
    on_bay residues label (27 ∷ 917 ∷ 1 ∷ []) [] test_absent
    ∷ on_bay residues label (27 ∷ 0 ∷ 1 ∷ []) [] (correct_gives (27 ∷ 917 ∷ 1 ∷ []) (1 ∷ 0 ∷ 1 ∷ 0 ∷ []))
    ∷ on_bay residues label (1 ∷ 1 ∷ 0 ∷ []) [] (correct_answers 12)
    ∷ on_bay residues label (1 ∷ 1 ∷ 0 ∷ []) (0 ∷ []) (correct_answers 12)
    ∷ on_bay residues label (1 ∷ 1 ∷ 0 ∷ []) (0 ∷ 1 ∷ []) (correct_gives (0 ∷ 0 ∷ 0 ∷ []) (2 ∷ 2 ∷ 0 ∷ 1 ∷ 1 ∷ 1 ∷ []))
    ∷ on_bay residues label (1 ∷ 1 ∷ 0 ∷ []) (0 ∷ 1 ∷ 2 ∷ []) (correct_answers 12)
    ∷ on_bay residues label (5 ∷ 0 ∷ 1 ∷ []) (0 ∷ 1 ∷ []) (correct_gives (27 ∷ 917 ∷ 1 ∷ []) (2 ∷ 2 ∷ 0 ∷ 1 ∷ 5 ∷ 0 ∷ []))
    ∷ on_bay residues label (0 ∷ 0 ∷ 1 ∷ []) [] (encode_gives (27 ∷ 917 ∷ 1 ∷ []))
    ∷ on_bay sixteen control (0 ∷ 0 ∷ 1 ∷ 0 ∷ 0 ∷ 0 ∷ 0 ∷ 1 ∷ 0 ∷ 0 ∷ 0 ∷ 0 ∷ 0 ∷ 0 ∷ 0 ∷ []) [] (correct_gives (replicate 15 0) (2 ∷ 0 ∷ 2 ∷ 7 ∷ 1 ∷ 1 ∷ []))
    ∷ on_bay bytes reel (0 ∷ 14 ∷ 7 ∷ 0 ∷ []) (0 ∷ []) (correct_gives (8 ∷ 14 ∷ 7 ∷ 1 ∷ []) (2 ∷ 1 ∷ 0 ∷ 3 ∷ 0 ∷ 0 ∷ []))
    ∷ on_bay bytes reel (0 ∷ 14 ∷ 7 ∷ 0 ∷ []) (0 ∷ 1 ∷ []) (correct_answers 12)
    ∷ on_solve sixteen (15 ∷ 10 ∷ 0 ∷ 8 ∷ 1 ∷ 0 ∷ []) 6 (neg_ℤ (pos 1)) (8 ∷ []) (12 ∷ 8 ∷ 1 ∷ []) (1, 3, Right)
    ∷ on_solve sixteen (0 ∷ []) 1 (pos 0) [] (1 ∷ []) (0, 1, Right)
    ∷ on_solve sixteen (0 ∷ []) 1 (pos 1) (0 ∷ 1 ∷ []) [] (2, 0, Left)
    ∷ []

-- every example of the table is right
abbrev pub TableHolds : Type 0
TableHolds = AllByRecursion Holds table
