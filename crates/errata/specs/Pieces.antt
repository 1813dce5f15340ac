-- The numbers that a corrector computes on its way, by their definitions.
use Rattle.std.specs.Prelude.{ℕ, zero, suc, ◌+◌, ◌-◌, ◌*◌, Bool, false, cond, ◌||◌, List, [], ◌∷◌, ◌++◌, fold, ◌==◌, slice_index, slice_index_or}
use Rattle.field.specs.Meaning.{Meaning, pow}
use Rattle.field.specs.Sums.{weighed}
use Rattle.code.specs.Shape.{Shape}

-- the coefficients of (1 - x z) h
abbrev pub less : Meaning → ℕ → (ℕ → ℕ) → ℕ → ℕ
less f x h zero = h 0
less f x h (suc j) = f.sum (h (suc j)) (f.opp (f.prod x (h j)))

-- the coefficients of h times 1 - a^i z for every position i below n that passes: the syndromes so are the modified syndromes
abbrev pub modified : Meaning → (ℕ → Bool) → (ℕ → ℕ) → ℕ → ℕ → ℕ
modified f p h zero j = h j
modified f p h (suc n) j = cond (p n) (less f (pow f f.a n) (modified f p h n) j) (modified f p h n j)

-- whether the locator B is 0 at a^(-i)
abbrev pub root : Meaning → List ℕ → ℕ → Bool
root f B i = weighed f B (f.m - i) == 0

-- whether a position is located: it is marked, or a root of the locator B
abbrev pub located : Meaning → List Bool → List ℕ → ℕ → Bool
located f marks B i = slice_index_or marks i false || root f B i

-- the numbers below n that pass, rising
abbrev pub passing : ℕ → (ℕ → Bool) → List ℕ
passing zero p = []
passing (suc n) p = cond (p n) (passing n p ++ (n ∷ [])) (passing n p)

-- the located positions, rising
abbrev pub places_of : Meaning → Shape → List Bool → List ℕ → List ℕ
places_of f c marks B = passing c.n (located f marks B)

-- whether k is among the places
abbrev pub among : List ℕ → ℕ → Bool
among places k = fold (λ (b : Bool) (l : ℕ). b || l == k) false places

-- 1 - a^(l - k)
abbrev pub apart : Meaning → ℕ → ℕ → ℕ
apart f k l = f.sum 1 (f.opp (pow f f.a (l + (f.m - k))))

-- the product of 1 - a^(l - k) over the places l but k
abbrev pub spread : Meaning → List ℕ → ℕ → ℕ
spread f places k = fold (λ (x l : ℕ). cond (l == k) x (f.prod x (apart f k l))) 1 places

-- what the value of the evaluator at a^(-k) is divided by
abbrev pub divisor : Meaning → Shape → List ℕ → List ℕ → ℕ → ℕ
divisor f c B places k = f.prod (f.prod (slice_index B 0) (pow f f.a (k * c.first))) (spread f places k)

-- the symbol that belongs at k: that of w less the amount there
abbrev pub mended : Meaning → Shape → List ℕ → List ℕ → List ℕ → List ℕ → ℕ → ℕ
mended f c A B places w k = f.sum (slice_index w k) (f.opp (f.prod (weighed f A (f.m - k)) (f.recip (divisor f c B places k))))
