-- What the least pair of the modified syndromes says of a codeword in reach.
use Rattle.std.specs.Prelude.{◌≡◌, ℕ, ◌<◌, Bool, true, false, not, ◌≢◌, List, get_or, ℤ, pos, ◌+ℤ◌, ◌==◌, slice_index, slice_index_or}
use Rattle.field.specs.Meaning.{Meaning}
use Rattle.field.specs.Symbols.{Symbols}
use Rattle.code.specs.Shape.{Shape}
use Rattle.code.specs.Words.{astray, marked, check_sum}
use Rattle.solver.specs.Pairs.{Term, right, Least}
use Rattle.errata.specs.Pieces.{modified, root, located, places_of, divisor, mended}

-- g is the modified syndromes of w, and (A, B) their least pair in the order s - 1
pub record Sighted (f : Meaning) (c : Shape) (marks : List Bool) (w g A B : List ℕ) (r : ℤ) (lead : Term) : Type 0 where
  pub symbols : Symbols f.q g
  pub modifies : (j : ℕ) → j < c.checks → slice_index g j ≡ modified f (λ i. get_or marks i false) (check_sum f c w) c.n j
  pub order : pos (marked c marks) ≡ r +ℤ pos 1
  pub least : Least f c.checks r g A B lead

-- the roots of B are the unmarked positions where v differs from w, and the amounts are the differences
pub record Pinned (f : Meaning) (c : Shape) (marks : List Bool) (w v A B : List ℕ) (lead : Term) : Type 0 where
  pub side : lead ≡ right (astray c marks w v)
  pub roots : (i : ℕ) → i < c.n → slice_index_or marks i false ≡ false → root f B i ≡ not (slice_index v i == slice_index w i)
  pub divides : (k : ℕ) → k < c.n → located f marks B k ≡ true → divisor f c B (places_of f c marks B) k ≢ 0
  pub mends : (k : ℕ) → k < c.n → located f marks B k ≡ true → mended f c A B (places_of f c marks B) w k ≡ slice_index v k
