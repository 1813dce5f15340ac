-- Internal: what stands on a side, and the side of the lower term.
use Rattle.std.specs.Prelude.{ℕ, ◌+◌, ◌<◌, ◌≤◌}
use Rattle.solver.specs.declared.Side.{Side}
use Rattle.solver.specs.declared.Side.TheVariants.{Left, Right}

abbrev pub on : {X : Type 0} → Side → X → X → X
on Left x y = x
on Right x y = y

-- of x^i on the left and x^j on the right, the lower in the order l - m is on this side
abbrev pub IsLower : ℕ → ℕ → ℕ → ℕ → Side → Type 0
IsLower l m i j Left = i + m ≤ j + l
IsLower l m i j Right = j + l < i + m
