-- Internal: what the steps of the solver do to its pairs, and what it holds after k steps.
use Rattle.std.specs.Prelude.{◌≡◌, ℕ, suc, ◌+◌, ◌<◌, ◌≤◌, ◌≢◌, List, slice_index, slice_index_or}
use Rattle.algebra.proofs.LeastPair.{Basis}
use Rattle.field.specs.Meaning.{Meaning, Laws}
use Rattle.field.specs.Symbols.{Within}
use Rattle.field.specs.Sums.{coefficient}
use Rattle.field.specs.Lifted.{lift, poly}
use Rattle.solver.specs.RowSteps.{Raised, Mixed}
use Rattle.solver.specs.Sides.{on}
use Rattle.solver.specs.declared.Side.{Side}
use Rattle.solver.specs.declared.pair.Pair.{Pair}

-- both halves are symbols
pub record InField (q : ℕ) (p : Pair) : Type 0 where
  pub left_in : Within q p.left
  pub right_in : Within q p.right

-- and they are 0 past the places in use, and past x^k
pub record Short (q k : ℕ) (p : Pair) : Type 0 where
  pub symbols : InField q p
  pub sized : p.size ≤ suc k
  pub left_short : (i : ℕ) → p.size ≤ i → slice_index p.left i ≡ 0
  pub right_short : (i : ℕ) → p.size ≤ i → slice_index p.right i ≡ 0

-- the coefficient of x^k in a - b · g
abbrev pub discrepancy_of : Meaning → ℕ → List ℕ → Pair → ℕ
discrepancy_of f k g p = f.sum (slice_index p.left k) (f.opp (coefficient f k p.right g))

-- a pair times x
pub record PairRaised (p p' : Pair) : Type 0 where
  pub left : Raised p.size p.left p'.left
  pub right : Raised p.size p.right p'.right
  pub top : p'.top ≡ p.top + 1
  pub size : p'.size ≡ p.size + 1

-- a pair plus c times another
pub record PairMixed (f : Meaning) (c : ℕ) (low p p' : Pair) : Type 0 where
  pub left : Mixed f c low.size low.left p.left p'.left
  pub right : Mixed f c low.size low.right p.right p'.right
  pub top : p'.top ≡ p.top
  pub own_size : p.size ≤ p'.size
  pub low_size : low.size ≤ p'.size
  pub no_more : (k : ℕ) → p.size ≤ k → low.size ≤ k → p'.size ≤ k

-- one step on the lower pair, whose discrepancy is x, and the higher, whose discrepancy is y
pub record Stepped (f : Meaning) (x y : ℕ) (low high low' high' : Pair) : Type 0 where
  pub fits : x ≡ 0 → (low' ≡ low) × PairRaised high high'
  pub mends : x ≢ 0 → PairRaised low low' × PairMixed f (f.opp (f.prod y (f.recip x))) low high high'

-- the first pairs: the half on this side is 1, and the other is 0
pub record Starts (side : Side) (p : Pair) : Type 0 where
  pub top : p.top ≡ 0
  pub size : p.size ≡ 1
  pub first : slice_index_or (on side p.left p.right) 0 0 ≡ 1
  pub later : (i : ℕ) → 0 < i → slice_index (on side p.left p.right) i ≡ 0
  pub nil : (i : ℕ) → slice_index (on side p.right p.left) i ≡ 0

-- after k steps, in the order l - m: s leads on the left and t on the right, both solve the congruence modulo x^k, and their exponents add up to k
pub record Held (f : Meaning) (w : Laws f) (g : List ℕ) (l m k : ℕ) (s t : Pair) : Type 0 where
  pub one : Short f.q k s
  pub two : Short f.q k t
  pub basis : Basis (lift f w) l m k (poly f w g) (poly f w s.left) (poly f w s.right) (poly f w t.left) (poly f w t.right) s.top t.top
