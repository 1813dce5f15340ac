-- When a code fits a field and a word fits the code, as the calls on slices ask it.
use Rattle.std.specs.Prelude.{ℕ, cond, not, List, length, Ok, Err, Result, ◌==◌, nat_le, nat_lt}
use Rattle.field.specs.Meaning.{Meaning}
use Rattle.field.specs.Symbols.{all_below}
use Rattle.code.specs.Shape.{Shape}

-- x where the code is one of the field and the word one of the code, or the topmost row that says otherwise
abbrev pub fitting : {X : Type 0} → Meaning → Shape → List ℕ → X → Result X ℕ
fitting f c w x =
    cond (nat_lt f.m c.n) (Err 3)
    (cond (nat_le f.m c.first) (Err 4)
    (cond (not (length w == c.n)) (Err 7)
    (cond (not (all_below f.q w)) (Err 10)
    (Ok x))))

-- whether the code is one of the field, or the topmost row that says otherwise
abbrev pub covering : Meaning → Shape → Result (Unit {0}) ℕ
covering f c =
    cond (nat_lt f.m c.n) (Err 3)
    (cond (nat_le f.m c.first) (Err 4)
    (Ok tt))

-- x where the word is one of the code over q symbols, or the topmost row that says otherwise
abbrev pub belonging : {X : Type 0} → ℕ → Shape → List ℕ → X → Result X ℕ
belonging q c w x =
    cond (not (length w == c.n)) (Err 7)
    (cond (not (all_below q w)) (Err 10)
    (Ok x))
