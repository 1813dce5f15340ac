-- The rows of the refusal table that calls meet, apart from any bay: their numbers, and which call meets which.
use Rattle.std.specs.Prelude.{ℕ, suc, cond, not, ◌||◌, ⊤, Bool, List, length, ℤ, pos, neg_ℤ, Ok, Err, Result, ◌==◌, int_lt, nat_le, nat_lt}
use Rattle.std.specs.List.{list_all}
use Rattle.second.specs.declared.rules.Rule.{Rule}
use Rattle.second.specs.declared.rules.Rule.TheVariants as rule
use Rattle.second.specs.declared.words.Shape.{Shape}

abbrev pub number : Rule → ℕ
number rule.Positions = 1
number rule.Checks = 2
number rule.PastTurn = 3
number rule.FirstRoot = 4
number rule.Count = 7
number rule.Map = 8
number rule.Symbol = 10
number rule.OutOfReach = 12
number rule.Buffer = 13
number rule.Terms = 14
number rule.Order = 15

-- whether each number is one of q symbols
abbrev pub are_symbols : ℕ → List ℕ → Bool
are_symbols q xs = list_all (λ x. nat_lt x q) xs

-- that three numbers are a code
abbrev pub shape_rule : Shape → Result ⊤ Rule
shape_rule s =
    cond (nat_lt s.n 2 || nat_lt 928 s.n) (Err rule.Positions)
    (cond (s.checks == 0 || nat_le s.n s.checks || nat_lt 512 s.checks) (Err rule.Checks)
    (Ok tt))

-- that a code has a word over a field of q symbols, with a mark or none for each of `marked` positions
abbrev pub fit_rule : ℕ → Shape → List ℕ → ℕ → Result ⊤ Rule
fit_rule q s w marked =
    cond (nat_le q s.n) (Err rule.PastTurn)
    (cond (nat_le q (suc s.first)) (Err rule.FirstRoot)
    (cond (not (length w == s.n)) (Err rule.Count)
    (cond (not (marked == s.n)) (Err rule.Map)
    (cond (not (are_symbols q w)) (Err rule.Symbol)
    (Ok tt)))))

-- both of these, the code first
abbrev pub next : Result ⊤ Rule → Result ⊤ Rule → Result ⊤ Rule
next (Ok _) r = r
next (Err e) _ = Err e

abbrev pub word_rule : ℕ → Shape → List ℕ → ℕ → Result ⊤ Rule
word_rule q s w marked = next (shape_rule s) (fit_rule q s w marked)

-- that the solver can be called with n coefficients in order r, over a field of q symbols, and with buffers of x and y places
abbrev pub request_rule : ℕ → List ℕ → ℕ → ℤ → ℕ → ℕ → Result ⊤ Rule
request_rule q g n r x y =
    cond (not (length g == n)) (Err rule.Count)
    (cond (not (are_symbols q g)) (Err rule.Symbol)
    (cond (nat_le x n || nat_le y n) (Err rule.Buffer)
    (cond (n == 0 || nat_lt 512 n) (Err rule.Terms)
    (cond (int_lt r (neg_ℤ (pos 511)) || int_lt (pos 511) r) (Err rule.Order)
    (Ok tt)))))
