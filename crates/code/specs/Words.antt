-- Codewords, and how far a codeword is from a word with marks.
use Rattle.std.specs.Prelude.{◌≡◌, ℕ, zero, suc, ◌+◌, ◌*◌, ◌<◌, ◌≤◌, Bool, true, false, cond, not, ◌&&◌, ◌||◌, List, length, get_or, Some, None, Option, ◌==◌, nat_eq, nat_le, nat_lt, slice_index, slice_index_or}
use Rattle.field.specs.Meaning.{Meaning}
use Rattle.field.specs.Symbols.{all_below}
use Rattle.field.specs.Sums.{weighed}
use Rattle.code.specs.Shape.{Shape}

-- how many numbers below n pass
abbrev pub count : ℕ → (ℕ → Bool) → ℕ
count zero p = 0
count (suc n) p = count n p + cond (p n) 1 0

-- whether all numbers below n pass
abbrev pub every : ℕ → (ℕ → Bool) → Bool
every zero p = true
every (suc n) p = every n p && p n

-- the first of two, or the second where there is no first
abbrev pub or_else : {X : Type 0} → Option X → Option X → Option X
or_else (Some x) other = Some x
or_else None other = other

-- what g finds at the first of 0 .. k - 1 where it finds anything
unfoldable pub first_of : {X : Type 0} → ℕ → (ℕ → Option X) → Option X
first_of zero g = None
first_of (suc k) g = or_else (first_of k g) (g k)

-- the lowest number below n that passes
abbrev pub lowest : ℕ → (ℕ → Bool) → Option ℕ
lowest n p = first_of n (λ j. cond (p j) (Some j) None)

-- a word of n symbols below q
pub record Word (q n : ℕ) (w : List ℕ) : Type 0 where
  pub long : length w ≡ n
  pub symbols : all_below q w ≡ true

-- check sum j: the sum of w i · a ^ (i · (b + j)) over every symbol of the word
abbrev pub check_sum : Meaning → Shape → List ℕ → ℕ → ℕ
check_sum f c w j = weighed f w (c.first + j)

-- all check sums are 0
abbrev pub Codeword : Meaning → Shape → List ℕ → Type 0
Codeword f c w = (j : ℕ) → j < c.checks → check_sum f c w j ≡ 0

-- the same as a test
abbrev pub codeword : Meaning → Shape → List ℕ → Bool
codeword f c w = every c.checks (λ j. nat_eq (check_sum f c w j) 0)

-- the lowest j whose check sum is not 0
abbrev pub failing_root : Meaning → Shape → List ℕ → Option ℕ
failing_root f c w = lowest c.checks (λ j. not (check_sum f c w j == 0))

-- whether v agrees with w from the position k on
abbrev pub agrees : ℕ → Shape → List ℕ → List ℕ → Bool
agrees k c w v = every c.n (λ i. nat_lt i k || slice_index v i == slice_index w i)

-- v is a codeword with the message of w, which is the positions after the checks
pub record Carries (f : Meaning) (c : Shape) (w v : List ℕ) : Type 0 where
  pub word : Word f.q c.n v
  pub codeword : Codeword f c v
  pub message : agrees c.checks c w v ≡ true

-- s: how many positions are marked
abbrev pub marked : Shape → List Bool → ℕ
marked c marks = count c.n (λ i. get_or marks i false)

-- e: how many unmarked positions there are where v differs from w
abbrev pub astray : Shape → List Bool → List ℕ → List ℕ → ℕ
astray c marks w v = count c.n (λ i. not (slice_index_or marks i false) && not (slice_index v i == slice_index w i))

-- v is in reach of the word w with its marks: 2e + s is at most the number of checks
abbrev pub InReach : Shape → List Bool → List ℕ → List ℕ → Type 0
InReach c marks w v = 2 * astray c marks w v + marked c marks ≤ c.checks

-- the same as a test
abbrev pub in_reach : Shape → List Bool → List ℕ → List ℕ → Bool
in_reach c marks w v = nat_le (2 * astray c marks w v + marked c marks) c.checks

-- v is a codeword in reach of w with its marks
pub record Near (f : Meaning) (c : Shape) (marks : List Bool) (w v : List ℕ) : Type 0 where
  pub word : Word f.q c.n v
  pub codeword : Codeword f c v
  pub reach : InReach c marks w v
