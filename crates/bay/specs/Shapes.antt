-- What a bay keeps of its code, if it has one.
use Rattle.std.specs.Prelude.{ℕ, Some, None, Option}
use Rattle.code.specs.declared.Code.{Code}
use Rattle.code.specs.Shape.{Shape, shape}

-- how many symbols the word has
abbrev pub width : Option Code → ℕ
width None = 0
width (Some c) = (shape c).n

-- the first root, which is below the field's turn
abbrev pub root : Option Code → ℕ
root None = 0
root (Some c) = (shape c).first

abbrev pub shaped : Option Code → Option Shape
shaped None = None
shaped (Some c) = Some (shape c)
