use Rattle.std.proofs.Common.{◌≡◌, length}
use Rattle.report.specs.Told.{told}
use Rattle.report.proofs.Telling.{so_far}
use Rattle.report.proofs.Report.describe.Given as goal

-- the changes at the positions so far are told
abbrev pub invariant-loop-position : goal.invariant-loop-position
invariant-loop-position l = told l.self ≡ so_far l.old l.new (length l.yielded)
