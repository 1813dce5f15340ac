-- What a lost map holds.
use Rattle.std.specs.Prelude.{◌≡◌, ℕ, Bool, List, vec_items}
use Rattle.marks.specs.declared.LostMap.{LostMap}
use Rattle.marks.specs.Marks.{marks}

-- how many positions a map has
abbrev pub span : LostMap → ℕ
span m = m.n

-- whether each is marked
unfoldable pub flags : LostMap → List Bool
flags m = marks m.n (vec_items m.bytes)

-- the map has as many positions as before, and these marks
pub record Remarked (old new : LostMap) (ms : List Bool) : Type 0 where
  pub flags : flags new ≡ ms
  pub span : span new ≡ span old
