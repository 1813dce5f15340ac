use Rattle.f929.proofs.+inverse.Given as goal

abbrev pub decreases-inverse : goal.decreases-inverse
decreases-inverse l = l.x
