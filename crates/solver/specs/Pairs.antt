-- Pairs of polynomials, their terms, the order r on terms, and the least pair of a congruence.
-- A polynomial is a row of symbols of any length: place i holds the coefficient of x^i, and past its end a row is 0.
use Rattle.std.specs.Prelude.{◌≡◌, ℕ, ◌<◌, ◌≢◌, List, ℤ, pos, ◌+ℤ◌, ◌≤ℤ◌, ◌<ℤ◌, slice_index}
use Rattle.field.specs.Meaning.{Meaning}
use Rattle.field.specs.Symbols.{Symbols}
use Rattle.field.specs.Sums.{coefficient}

-- a term: left i is (x^i, 0), and right j is (0, x^j)
pub data Term : Type 0 where
  left right : ℕ → Term

-- s is lower than t in order r: by the exponents on one side, and left i is lower than right j exactly if i ≤ j + r
abbrev pub Lower : ℤ → Term → Term → Type 0
Lower r (left i) (left j) = i < j
Lower r (right i) (right j) = i < j
Lower r (left i) (right j) = pos i ≤ℤ (pos j +ℤ r)
Lower r (right j) (left i) = (pos j +ℤ r) <ℤ pos i

-- the coefficient of a term in the pair (a, b)
abbrev pub at : List ℕ → List ℕ → Term → ℕ
at a b (left i) = slice_index a i
at a b (right j) = slice_index b j

-- (a, b) is not zero
abbrev pub NonZero : List ℕ → List ℕ → Type 0
NonZero a b = (t : Term) × (at a b t ≢ 0)

-- t is the leading term of (a, b): the highest with a coefficient other than 0
pub record Leads (r : ℤ) (a b : List ℕ) (t : Term) : Type 0 where
  pub there : at a b t ≢ 0
  pub above : (s : Term) → Lower r t s → at a b s ≡ 0

-- a ≡ b · g modulo x^n: the coefficients of 1 to x^(n - 1) agree
abbrev pub Congruent : Meaning → ℕ → List ℕ → List ℕ → List ℕ → Type 0
Congruent f n g a b = (j : ℕ) → j < n → slice_index a j ≡ coefficient f j b g

-- (a, b) is a pair of symbols, is not zero, and solves the congruence
pub record Solution (f : Meaning) (n : ℕ) (g a b : List ℕ) : Type 0 where
  pub left_symbols : Symbols f.q a
  pub right_symbols : Symbols f.q b
  pub some : NonZero a b
  pub solves : Congruent f n g a b

-- (a, b) is a solution whose leading coefficient is 1, and no solution leads lower
pub record Least (f : Meaning) (n : ℕ) (r : ℤ) (g a b : List ℕ) (lead : Term) : Type 0 where
  pub solution : Solution f n g a b
  pub leads : Leads r a b lead
  pub monic : at a b lead ≡ 1
  pub least : (u v : List ℕ) (t : Term) → Solution f n g u v → Leads r u v t → Lower r t lead → ⊥

-- every pair that is not zero has a leading term, in every order
abbrev pub EveryPairLeads : Type 0
EveryPairLeads = (r : ℤ) (a b : List ℕ) → NonZero a b → (t : Term) × Leads r a b t

-- there is just one least pair: two have the same leading term and the same coefficients
abbrev pub OnlyOne : Meaning → Type 0
OnlyOne f =
    (n : ℕ) (r : ℤ) (g a b a' b' : List ℕ) (t t' : Term) → Symbols f.q g → Least f n r g a b t → Least f n r g a' b' t'
    → (t ≡ t') × ((u : Term) → at a b u ≡ at a' b' u)
