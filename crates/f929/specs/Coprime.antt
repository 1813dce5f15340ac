-- Two numbers with no common divisor but 1. Only private contracts cite this.
use Rattle.std.specs.Prelude.{◌≡◌, ℕ, ◌%◌}

abbrev pub Coprime : ℕ → ℕ → Type 0
Coprime x n = (d : ℕ) → x % d ≡ 0 → n % d ≡ 0 → d ≡ 1
