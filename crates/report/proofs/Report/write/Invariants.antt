use Rattle.std.proofs.Common.{◌≡◌, ◌∷◌, ◌+◌, map, take}
use Rattle.report.specs.Written.{over}
use Rattle.report.proofs.Written.{over_from}
use Rattle.report.proofs.Report.write.Given as goal

-- the positions of the changes so far are written, and the symbols before
abbrev pub invariant-loop-i : goal.invariant-loop-i
invariant-loop-i l = l.out ≡ over (l.count ∷ (l.self.met ∷ map (λ c. c.position) (take l.i l.change-items))) (over_from (2 + l.count) (map (λ c. c.former) (take l.i l.change-items)) l.fn.out)
