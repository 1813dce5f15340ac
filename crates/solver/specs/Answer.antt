-- What solve answers, what it leaves in the buffers, and when it refuses.
use Rattle.std.specs.Prelude.{◌≡◌, ℕ, suc, ◌+◌, ◌≤◌, cond, not, ◌||◌, ◌≢◌, List, length, take, drop, ℤ, pos, neg_ℤ, Some, None, Ok, Err, Option, Result, ◌==◌, int_lt, nat_le, nat_lt, slice_index}
use Rattle.field.specs.Meaning.{Meaning}
use Rattle.field.specs.Symbols.{all_below}
use Rattle.code.specs.Refusals.{number}
use Rattle.code.specs.declared.Refusal.{Refusal}
use Rattle.solver.specs.Pairs.{Term, left, right, Least}
use Rattle.solver.specs.declared.Side.{Side}
use Rattle.solver.specs.declared.Side.TheVariants.{Left, Right}

-- c is the count of the row p: its degree + 1, or 0 where p is 0
pub record Counts (p : List ℕ) (c : ℕ) : Type 0 where
  pub rest : (i : ℕ) → c ≤ i → slice_index p i ≡ 0
  pub top : (i : ℕ) → suc i ≡ c → slice_index p i ≢ 0

-- the side of a term: 0 left, 1 right
abbrev pub side_of : Term → ℕ
side_of (left i) = 0
side_of (right j) = 1

-- the number of a side
abbrev pub side_number : Side → ℕ
side_number Left = 0
side_number Right = 1

-- the number of the refusal, or none: the first that holds, for q symbols, the coefficients g, their count n, the order r, and x and y places in the buffers
abbrev pub refusal_of : ℕ → List ℕ → ℕ → ℤ → ℕ → ℕ → Option ℕ
refusal_of q g n r x y =
    cond (not (length g == n)) (Some 7)
    (cond (not (all_below q g)) (Some 10)
    (cond (nat_le x n || nat_le y n) (Some 13)
    (cond (n == 0 || nat_lt 512 n) (Some 14)
    (cond (int_lt r (neg_ℤ (pos 511)) || int_lt (pos 511) r) (Some 15)
    None))))

-- the least pair stands in the first n + 1 places of the buffers, which were xs and ys and are xs' and ys'; all else is as it was
pub record Solved (f : Meaning) (g : List ℕ) (n : ℕ) (r : ℤ) (xs ys xs' ys' : List ℕ) (found : ℕ × ℕ × Side) : Type 0 where
  pub lead : Term
  pub least : Least f n r g (take (n + 1) xs') (take (n + 1) ys') lead
  pub on : side_number found.2 ≡ side_of lead
  pub left_counted : Counts (take (n + 1) xs') found.0
  pub right_counted : Counts (take (n + 1) ys') found.1
  pub left_kept : drop (n + 1) xs' ≡ drop (n + 1) xs
  pub right_kept : drop (n + 1) ys' ≡ drop (n + 1) ys

-- solve answers what it found where nothing is refused; otherwise it answers the refusal, and the buffers are as they were
abbrev pub Answered : Meaning → List ℕ → ℕ → ℤ → List ℕ → List ℕ → List ℕ → List ℕ → Result (ℕ × ℕ × Side) Refusal → Type 0
Answered f g n r xs ys xs' ys' (Ok found) = (refusal_of f.q g n r (length xs) (length ys) ≡ None) × Solved f g n r xs ys xs' ys' found
Answered f g n r xs ys xs' ys' (Err e) = (refusal_of f.q g n r (length xs) (length ys) ≡ Some (number e)) × (xs' ≡ xs) × (ys' ≡ ys)
