-- No bit past n is set exactly where the last byte is low.
use Rattle.std.proofs.Common.{◌≡◌, ℕ, zero, suc, ◌+◌, ◌-◌, ◌*◌, ◌/◌, ◌%◌, ◌^◌, ◌<◌, Bool, true, false, not, ◌&&◌, eqb, ltb, ◌≢◌, List, length, get_or, sym, ap, ◌∙◌, subst, ap₂, ⊎_elim, arith, ltb-true, le-ltb, lt-ltb, eq-eqb, ne_eqb}
use native.Mathlib.Nat.{div-eq_of_lt, div-eq_of_lt-le}
use Rattle.std.proofs.Math.Bool.{and-false}
use Rattle.std.proofs.lemmas.Nat.{pow_pos, pow-add}
use Rattle.std.proofs.lemmas.List.{get_or_past}
use Rattle.std.proofs.lemmas.Bool.{cases_lt}
use Rattle.marks.specs.Marks.{bit_at, clear_from, tidy, Clean}

-- x is below p exactly where it is below the double, and its bit at p is not set
low_bit : (x p : ℕ) → 0 < p → (not (eqb (x / p % 2) 1) && ltb x (p * 2)) ≡ ltb x p
low_bit x p pos =
    ⊎_elim
    (λ lt. ap₂ (λ (d : ℕ) (b : Bool). not (eqb (d % 2) 1) && b) (div-eq_of_lt lt) (lt-ltb x (p * 2) (omega arith)) ∙ sym (lt-ltb x p lt))
    (λ ge.
    ⊎_elim
    (λ lt. ap (λ (d : ℕ). not (eqb (d % 2) 1) && ltb x (p * 2)) (div-eq_of_lt-le {k = 1} p (omega arith) (omega arith)))
    (λ high. ap (λ (b : Bool). not (eqb (x / p % 2) 1) && b) (le-ltb x (p * 2) high) ∙ and-false _)
    (cases_lt x (p * 2)) ∙ sym (le-ltb x p ge))
    (cases_lt x p)

module _ (bs : List ℕ) (b : ℕ) (small : get_or bs b 0 < 256) where
  bit_is : (e : ℕ) → e < 8 → bit_at bs (8 * b + e) ≡ eqb (get_or bs b 0 / 2 ^ e % 2) 1
  bit_is e h =
      let at : (8 * b + e) / 8 ≡ b = omega arith in
      let in_byte : (8 * b + e) % 8 ≡ e = omega arith in
      ap₂ (λ (j k : ℕ). eqb (get_or bs j 0 / 2 ^ k % 2) 1) at in_byte

  -- the bits from e on, in byte b
  clear_low : (k e : ℕ) → e + k ≡ 8 → clear_from bs (8 * b + e) k ≡ ltb (get_or bs b 0) (2 ^ e)
  clear_low zero e h = let all : e ≡ 8 = omega arith in sym (ap (λ j. ltb (get_or bs b 0) (2 ^ j)) all ∙ lt-ltb _ 256 small)
  clear_low (suc k) e h =
      let next : 8 * b + e + 1 ≡ 8 * b + (e + 1) = omega arith in
      ap₂ (λ (x y : Bool). not x && y) (bit_is e (omega arith)) (ap (λ i. clear_from bs i k) next ∙ clear_low k (e + 1) (omega arith) ∙ ap (ltb (get_or bs b 0)) (pow-add 2 e 1))
      ∙ low_bit (get_or bs b 0) (2 ^ e) (pow_pos e)

-- by the last byte, where n ends within it
pub tidy_part : (n : ℕ) (bs : List ℕ) → length bs ≡ (n + 7) / 8 → n % 8 ≢ 0 → get_or bs (n / 8) 0 < 256 → tidy n bs ≡ ltb (get_or bs (n / 8) 0) (2 ^ (n % 8))
unfolding tidy
tidy_part n bs long part small =
    let at : n ≡ 8 * (n / 8) + n % 8 = omega arith in
    let left : n % 8 + (8 * length bs - n) ≡ 8 = omega arith in
    ap (λ b. b && clear_from bs n (8 * length bs - n)) (eq-eqb _ _ long)
    ∙ ap (λ i. clear_from bs i (8 * length bs - n)) at ∙ clear_low bs (n / 8) small (8 * length bs - n) (n % 8) left

-- where n ends with a byte, no bit is left
pub tidy_whole : (n : ℕ) (bs : List ℕ) → length bs ≡ (n + 7) / 8 → n % 8 ≡ 0 → tidy n bs ≡ true
unfolding tidy
tidy_whole n bs long whole =
    let none : 8 * length bs - n ≡ 0 = omega arith in
    ap (λ b. b && clear_from bs n (8 * length bs - n)) (eq-eqb _ _ long) ∙ ap (clear_from bs n) none

pub tidy_long : (n : ℕ) (bs : List ℕ) → length bs ≢ (n + 7) / 8 → tidy n bs ≡ false
unfolding tidy
tidy_long n bs ne = ap (λ b. b && clear_from bs n (8 * length bs - n)) (ne_eqb _ _ ne)

pub clean_part : (n : ℕ) (bs : List ℕ) → length bs ≡ (n + 7) / 8 → ltb (get_or bs (n / 8) 0) (2 ^ (n % 8)) ≡ true → Clean n bs
clean_part n bs long low = record { bytes = long; rest = ltb-true _ _ low }

pub clean_whole : (n : ℕ) (bs : List ℕ) → length bs ≡ (n + 7) / 8 → n % 8 ≡ 0 → Clean n bs
clean_whole n bs long whole =
    let P : ℕ → Type 0 = λ x. x < 2 ^ (n % 8) in
    record { bytes = long; rest = subst P (sym (get_or_past bs (n / 8) 0 (omega arith))) (pow_pos (n % 8)) }
