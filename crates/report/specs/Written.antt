-- A report, and how it is written into a buffer.
use Rattle.std.specs.Prelude.{ℕ, ◌+◌, ◌*◌, cond, List, [], ◌∷◌, ◌++◌, length, drop, Ok, Err, Result, nat_lt}

-- how many marks the last accepted correction met, the positions that it changed, rising, and the symbols there before
pub record Report : Type 0 where
  pub met : ℕ
  pub places : List ℕ
  pub former : List ℕ

-- a report of nothing
abbrev pub no_report : Report
no_report = record { met = 0; places = []; former = [] }

-- turned down with the number k, and all as it was
abbrev pub refused : {X Y : Type 0} → ℕ → Y → Result X ℕ × Y
refused k y = (Err k, y)

-- accepted, and then y
abbrev pub done : {Y : Type 0} → Y → Result (Unit {0}) ℕ × Y
done y = (Ok tt, y)

-- a buffer with xs written from its start, and what lies past them untouched
abbrev pub over : List ℕ → List ℕ → List ℕ
over xs buf = xs ++ drop (length xs) buf

-- a report as it is written: how many positions changed, how many marks were met, the positions, the symbols before
abbrev pub written : Report → List ℕ
written r = length r.places ∷ (r.met ∷ (r.places ++ r.former))

-- a report goes into a buffer, unless that is too short
abbrev pub writing : Report → List ℕ → Result (Unit {0}) ℕ × List ℕ
writing r buf =
    cond (nat_lt (length buf) (2 + 2 * length r.places)) (refused 13 buf)
    (done (over (written r) buf))
