-- One step of shift and add.
use Rattle.std.proofs.Common.{◌≡◌, ℕ, suc, ◌+◌, ◌-◌, ◌*◌, ◌/◌, ◌%◌, ◌<◌, ◌≤◌, true, false, cond, eqb, ltb, sym, refl, ◌∙◌, arith}
use lib.Bits.{bit_xor, xor_assoc, xor_zero_r}
use Rattle.std.proofs.lemmas.Bool.{eqb-true, lt-ltb, le-ltb, cond-true, cond-false}
use Rattle.field.proofs.Tests.{at}
use Rattle.binary.specs.Polynomials.{shifted, terms}

abbrev wide : ℕ → ℕ
wide v = v * 2 % 4294967296

shift : (v : ℕ) → v < 16 → cond (ltb v 8) (wide v) (bit_xor (wide v) 19) ≡ shifted 4 19 v
unfolding shifted
shift v h = eqb-true _ _ (at 16 (λ w. eqb (cond (ltb w 8) (wide w) (bit_xor (wide w) 19)) (shifted 4 19 w)) refl v h)

pub shift_low : (v : ℕ) → v < 16 → v < 8 → v * 2 % 4294967296 ≡ shifted 4 19 v
shift_low v h low = sym (cond-true _ _ _ (lt-ltb v 8 low)) ∙ shift v h

pub shift_high : (v : ℕ) → v < 16 → 8 ≤ v → bit_xor (v * 2 % 4294967296) 19 ≡ shifted 4 19 v
shift_high v h high = sym (cond-false _ _ _ (le-ltb v 8 high)) ∙ shift v h

pub step : (n k total left right : ℕ) → k < n
    → bit_xor (bit_xor total (cond (eqb (right % 2) 1) left 0)) (terms 4 19 (n - (k + 1)) (shifted 4 19 left) (right / 2)) ≡ bit_xor total (terms 4 19 (n - k) left right)
step n k total left right h =
    let e : n - k ≡ suc (n - (k + 1)) = omega arith in
    rw e (xor_assoc total (cond (eqb (right % 2) 1) left 0) (terms 4 19 (n - (k + 1)) (shifted 4 19 left) (right / 2)))

pub odd_adds : (total right left : ℕ) → right % 2 ≡ 1 → bit_xor total left ≡ bit_xor total (cond (eqb (right % 2) 1) left 0)
odd_adds total right left e = rw e refl

pub even_adds : (total right left : ℕ) → (right % 2 ≡ 1 → ⊥) → total ≡ bit_xor total (cond (eqb (right % 2) 1) left 0)
even_adds total right left n =
    let e : right % 2 ≡ 0 = omega arith in
    rw e (sym (xor_zero_r total))

pub add_in : (right left n : ℕ) → 0 < n → left < n → cond (eqb (right % 2) 1) left 0 < n
add_in right left n h0 h = elim (eqb (right % 2) 1) as (λ b. cond b left 0 < n) [ true ↦ h | false ↦ h0 ]
