-- What a report holds.
use Rattle.std.specs.Prelude.{map, vec_items}
use Rattle.report.specs.declared.Report.{Report as Kept}
use Rattle.report.specs.Written.{Report}

abbrev pub told : Kept → Report
told r = record { met = r.met; places = map (λ c. c.position) (vec_items r.changes); former = map (λ c. c.former) (vec_items r.changes) }
