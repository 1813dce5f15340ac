-- What a plain bay holds, part by part.
use Rattle.std.proofs.Common.{◌≡◌, ℕ, Bool, List, Option, Result}
use Rattle.code.specs.Shape.{Shape}
use Rattle.report.specs.Written.{Report, done}
use Rattle.bay.specs.Plain.{Plain}

-- two bays with the same parts
pub done_with : {c d : Option Shape} {v w : List ℕ} {a b : List Bool} {r s : Report} → c ≡ d → v ≡ w → a ≡ b → r ≡ s
    → ◌≡◌ {A = Result (Unit {0}) ℕ × Plain} (done (record { code = c; word = v; marks = a; report = r })) (done (record { code = d; word = w; marks = b; report = s }))
done_with e h m k = cc
