-- One step of Euclid's chain of remainders: from a reciprocal of n % x modulo x to one of x modulo n.
use Rattle.std.proofs.Common.{◌≡◌, ℕ, ◌+◌, ◌-◌, ◌*◌, ◌/◌, ◌%◌, ◌<◌, sym, ap, ◌∙◌, ⊎_elim, add-zero, mod-eq_of_lt, mul_comm, eq-zero-or-pos, mul-le-mul_left, zero-mul, mul-suc, arith}
use native.Mathlib.Nat.{div-add-mod, add-mod, mod_self, mod-mod, zero-mod, mul-div_right, mul-add-mod_self_left, mul-sub}
use Rattle.f929.specs.Coprime.{Coprime}
use Rattle.std.proofs.lemmas.Nat.{mul-mod_first}

zeros : (d : ℕ) → (0 % d + 0) % d ≡ 0
zeros d = rw (add-zero, mod-mod, zero-mod)

-- what divides x and n % x divides n
divides : (x n d : ℕ) → x % d ≡ 0 → n % x % d ≡ 0 → n % d ≡ 0
divides x n d hx hw =
    ap (λ (y : ℕ). y % d) (sym (div-add-mod n x)) ∙ add-mod (x * (n / x)) (n % x) d
    ∙ ap (λ (y : ℕ). (y + n % x % d) % d) (sym (mul-mod_first x (n / x) d) ∙ ap (λ (y : ℕ). y * (n / x) % d) hx ∙ ap (λ (y : ℕ). y % d) (zero-mul (n / x)))
    ∙ ap (λ (y : ℕ). (0 % d + y) % d) hw ∙ zeros d

pub next : (x n : ℕ) → Coprime x n → Coprime (n % x) x
next x n co d hw hx = co d hx (divides x n d hx hw)

pub left_over : (x n : ℕ) → 1 < x → Coprime x n → 0 < n % x
left_over x n h co =
    ⊎_elim (λ e. let one : x ≡ 1 = co x (mod_self x) e in omega arith) (λ p. p) (eq-zero-or-pos (n % x))

module _ (x n y : ℕ) (h : 1 < x) (hn : x < n) (hy : y < x) (e : y * (n % x) % x ≡ 1) where
  -- n * y is 1 more than a multiple of x
  over : n * y % x ≡ 1
  over = sym (mul-mod_first n y x) ∙ ap (λ (z : ℕ). z % x) (mul_comm (n % x) y) ∙ e

  whole : x * (n * y / x) + 1 ≡ n * y
  whole = ap (λ (z : ℕ). x * (n * y / x) + z) (sym over) ∙ div-add-mod (n * y) x

  quotient : (n * y - 1) / x ≡ n * y / x
  quotient =
      let p : n * y - 1 ≡ x * (n * y / x) = omega (arith, whole) in
      rw p (mul-div_right (n * y / x) (omega arith))

  -- the step back
  pub gives_one : (n - (n * y - 1) / x) * x % n ≡ 1
  gives_one =
      let p : (n - n * y / x) * x ≡ n * (x - y) + 1 =
      omega (arith, mul_comm (n - n * y / x) x, mul-sub x n (n * y / x), mul_comm x n, mul-sub n x y, whole, mul-le-mul_left n hy, mul-suc n y) in
      rw (quotient, p) (mul-add-mod_self_left n (x - y) 1 ∙ mod-eq_of_lt (omega arith))
