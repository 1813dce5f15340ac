-- Sums in a field, and rows of symbols as polynomials: the place i holds the coefficient of x^i, and past its end a row is 0.
use Rattle.std.specs.Prelude.{ℕ, zero, suc, ◌-◌, ◌*◌, List, length, slice_index}
use Rattle.field.specs.Meaning.{Meaning, pow}

-- h 0 + h 1 + .. + h (n - 1)
abbrev pub sum_of : Meaning → ℕ → (ℕ → ℕ) → ℕ
sum_of f zero h = 0
sum_of f (suc n) h = f.sum (sum_of f n h) (h n)

-- the value at x of the first n coefficients: the sum of w i · x^i
abbrev pub value_at : Meaning → ℕ → List ℕ → ℕ → ℕ
value_at f n w x = sum_of f n (λ i. f.prod (slice_index w i) (pow f x i))

-- the value at a^t of the first n coefficients: the sum of w i · a^(i · t)
abbrev pub value : Meaning → ℕ → List ℕ → ℕ → ℕ
value f n w t = sum_of f n (λ i. f.prod (slice_index w i) (pow f f.a (i * t)))

-- the value at a^t of the whole row
abbrev pub weighed : Meaning → List ℕ → ℕ → ℕ
weighed f w t = value f (length w) w t

-- the coefficient of x^k in b · g
abbrev pub coefficient : Meaning → ℕ → List ℕ → List ℕ → ℕ
coefficient f k b g = sum_of f (suc k) (λ i. f.prod (slice_index b i) (slice_index g (k - i)))
