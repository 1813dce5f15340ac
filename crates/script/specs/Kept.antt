-- What a line buffer keeps of the line being read.
use Rattle.std.specs.Prelude.{ℕ, List, vec_items}
use Rattle.script.specs.declared.buffer.LineBuffer.{LineBuffer}

abbrev pub kept : LineBuffer → List ℕ
kept b = vec_items b.bytes
