-- A bay as a plain bay.
use Rattle.std.specs.Prelude.{◌≡◌, ℕ, vec_items}
use Rattle.marks.specs.Held.{flags}
use Rattle.bay.specs.declared.Bay.{Bay}
use Rattle.bay.specs.Shapes.{shaped}
use Rattle.bay.specs.Plain.{Plain}
use Rattle.report.specs.Told.{told}

abbrev pub held : {F : Type 0} {Q M : ℕ} → Bay F Q M → Plain
held b = record { code = shaped b.code; word = vec_items b.word; marks = flags b.lost; report = told b.report }

-- a call that met the bay `old` answers a and leaves `new`, as the plain bay answers and is left; the field stays
pub record Follows {F : Type 0} {Q M : ℕ} {A : Type 0} (old new : Bay F Q M) (a : A) (plain : A × Plain) : Type 0 where
  pub does : (a, held new) ≡ plain
  pub same : new.field ≡ old.field
