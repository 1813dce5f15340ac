-- What is told of the change from one word to another.
use Rattle.std.specs.Prelude.{ℕ, zero, suc, Bool, cond, ◌&&◌, List, [], ◌∷◌, ◌++◌, map, length, ◌==◌, nat_le, slice_index}
use Rattle.code.specs.Distance.{differ}
use Rattle.report.specs.Written.{Report}

-- the numbers below n that pass, rising
abbrev pub which : ℕ → (ℕ → Bool) → List ℕ
which zero p = []
which (suc n) p = which n p ++ cond (p n) (n ∷ []) []

-- the positions of w where v differs from it
abbrev pub changes : List ℕ → List ℕ → List ℕ
changes w v = which (length w) (differ v w)

-- the report of a correction that met so many marks and made w to v
abbrev pub reported : ℕ → List ℕ → List ℕ → Report
reported met w v = record { met = met; places = changes w v; former = map (λ i. slice_index w i) (changes w v) }

-- whether it can be told: two words as long as each other, with 928 positions and 512 changes at most
abbrev pub reportable : List ℕ → List ℕ → Bool
reportable w v = (length v == length w && nat_le (length w) 928) && nat_le (length (changes w v)) 512
