-- One bit of a map is turned, on or off.
use Rattle.std.proofs.Common.{◌≡◌, ℕ, zero, suc, ◌+◌, ◌-◌, ◌*◌, ◌/◌, ◌%◌, ◌^◌, ◌<◌, Bool, true, false, eqb, ◌≢◌, List, map, length, get_or, set, sym, refl, ap, ◌∙◌, subst, ⊎_elim, arith, get_or-set_other, get_or-set_same, eqb-true}
use native.Mathlib.Nat.{div-eq_of_lt, div_self}
use lib.Bits.{bit_or, or_shr, or_mod, or_zero_r, or_lt, bit_xor, xor_shr, xor_mod, xor_zero_r, xor_self, xor_lt}
use Rattle.std.specs.List.{range_with_len}
use Rattle.std.proofs.lemmas.Nat.{mod_below, one_shl, pow_pos, pow_below, pow-add, shl-shr}
use Rattle.std.proofs.lemmas.List.FromFn.{length-map-range_with_len, get_or-map-range_with_len}
use Rattle.std.proofs.lemmas.List.{same_lists, length-set, get_or_read}
use Rattle.std.proofs.lemmas.Bool.{cases_lt, cases_eq}
use Rattle.marks.specs.Marks.{bit_at, marks, Clean}

-- bit e of 2 ^ k
power_same : (k : ℕ) → 2 ^ k / 2 ^ k % 2 ≡ 1
power_same k = ap (λ x. x % 2) (div_self (pow_pos k))

power_other : (k e : ℕ) → k ≢ e → 2 ^ k / 2 ^ e % 2 ≡ 0
power_other k e ne =
    ⊎_elim
    (λ lt. ap (λ x. x % 2) (div-eq_of_lt (pow_below k e lt)))
    (λ ge.
    let d = k - e - 1 in
    let split : 2 ^ k ≡ (2 ^ d * 2) * 2 ^ e = ap (λ x. 2 ^ x) (omega arith) ∙ pow-add 2 (d + 1) e ∙ ap (λ x. x * 2 ^ e) (pow-add 2 d 1) in
    ap (λ x. x / 2 ^ e % 2) split ∙ ap (λ x. x % 2) (shl-shr (2 ^ d * 2) e) ∙ omega arith)
    (cases_lt k e)

-- bit e of a | b and of a ^ b
or_bit : (a b e : ℕ) → bit_or a b / 2 ^ e % 2 ≡ bit_or (a / 2 ^ e % 2) (b / 2 ^ e % 2)
or_bit a b e = ap (λ x. x % 2) (or_shr a b e) ∙ or_mod (a / 2 ^ e) (b / 2 ^ e) 1

xor_bit : (a b e : ℕ) → bit_xor a b / 2 ^ e % 2 ≡ bit_xor (a / 2 ^ e % 2) (b / 2 ^ e % 2)
xor_bit a b e = ap (λ x. x % 2) (xor_shr a b e) ∙ xor_mod (a / 2 ^ e) (b / 2 ^ e) 1

or_one : (d : ℕ) → d < 2 → bit_or d 1 ≡ 1
or_one zero h = refl
or_one (suc zero) h = refl
or_one (suc (suc d)) h = absurd (omega arith)

-- a byte in which the bit k is b, and any other as in x
record Turned (x k : ℕ) (b : Bool) (y : ℕ) : Type 0 where
  here : eqb (y / 2 ^ k % 2) 1 ≡ b
  others : (e : ℕ) → k ≢ e → y / 2 ^ e % 2 ≡ x / 2 ^ e % 2
  low : (e : ℕ) → x < 2 ^ e → k < e → y < 2 ^ e

or_turned : (x k : ℕ) → Turned x k true (bit_or x (2 ^ k))
or_turned x k = record {
  here = ap (λ d. eqb d 1) (or_bit x (2 ^ k) k ∙ ap (bit_or (x / 2 ^ k % 2)) (power_same k) ∙ or_one _ (mod_below _ 2 (omega arith)));
  others = λ e ne. or_bit x (2 ^ k) e ∙ ap (bit_or (x / 2 ^ e % 2)) (power_other k e ne) ∙ or_zero_r _;
  low = λ e h lt. or_lt e _ _ h (pow_below k e lt);
}

xor_turned : (x k : ℕ) → eqb (x / 2 ^ k % 2) 1 ≡ true → Turned x k false (bit_xor x (2 ^ k))
xor_turned x k on = record {
  here = ap (λ d. eqb d 1) (xor_bit x (2 ^ k) k ∙ ap (bit_xor (x / 2 ^ k % 2)) (power_same k) ∙ ap (λ d. bit_xor d 1) (eqb-true _ 1 on) ∙ xor_self 1);
  others = λ e ne. xor_bit x (2 ^ k) e ∙ ap (bit_xor (x / 2 ^ e % 2)) (power_other k e ne) ∙ xor_zero_r _;
  low = λ e h lt. xor_lt e _ _ h (pow_below k e lt);
}

-- a map whose bits are those of bs but for pos
marks_turned : (bs new : List ℕ) (pos : ℕ) (b : Bool) → bit_at new pos ≡ b → ((i : ℕ) → i ≢ pos → bit_at new i ≡ bit_at bs i)
    → (n : ℕ) → pos < n → marks n new ≡ set (marks n bs) pos b
unfolding marks
marks_turned bs new pos b here others n lt =
    same_lists _ _
    (length-map-range_with_len (bit_at new) 0 n ∙ sym (length-set _ _ _ ∙ length-map-range_with_len (bit_at bs) 0 n))
    (λ k d lk.
    let kn : k < n = subst (λ m. k < m) (length-map-range_with_len (bit_at new) 0 n) lk in
    let within : pos < length (map (bit_at bs) (range_with_len 0 n)) = subst (λ m. pos < m) (sym (length-map-range_with_len (bit_at bs) 0 n)) lt in
    get_or-map-range_with_len (bit_at new) 0 n k k d kn (omega arith)
    ∙ ⊎_elim
    (λ (e : k ≡ pos). ap (bit_at new) e ∙ here ∙ sym (ap (λ j. get_or (set (map (bit_at bs) (range_with_len 0 n)) pos b) j d) e ∙ get_or-set_same _ pos b d within))
    (λ far. others k far ∙ sym (get_or-set_other _ pos k b d far ∙ get_or-map-range_with_len (bit_at bs) 0 n k k d kn (omega arith)))
    (cases_eq k pos))

module _ (n : ℕ) (bs : List ℕ) (pos y : ℕ) (b : Bool) (lt : pos < n) (clean : Clean n bs) (t : Turned (get_or bs (pos / 8) 0) (pos % 8) b y) where
  new : List ℕ
  new = set bs (pos / 8) y

  within : pos / 8 < length bs
  within = omega (arith, clean.bytes)

  bit_here : bit_at new pos ≡ b
  unfolding new
  bit_here = ap (λ x. eqb (x / 2 ^ (pos % 8) % 2) 1) (get_or-set_same bs (pos / 8) y 0 within) ∙ t.here

  bit_other : (i : ℕ) → i ≢ pos → bit_at new i ≡ bit_at bs i
  unfolding new
  bit_other i ne =
      ⊎_elim
      (λ (e : i / 8 ≡ pos / 8).
      let k : pos % 8 ≢ i % 8 = λ q. ne (omega arith) in
      ap (λ j. eqb (get_or new j 0 / 2 ^ (i % 8) % 2) 1) e
      ∙ ap (λ x. eqb (x / 2 ^ (i % 8) % 2) 1) (get_or-set_same bs (pos / 8) y 0 within)
      ∙ ap (λ x. eqb x 1) (t.others (i % 8) k)
      ∙ ap (λ j. eqb (get_or bs j 0 / 2 ^ (i % 8) % 2) 1) (sym e))
      (λ far. ap (λ x. eqb (x / 2 ^ (i % 8) % 2) 1) (get_or-set_other bs (pos / 8) (i / 8) y 0 far))
      (cases_eq (i / 8) (pos / 8))

  turned_marks : marks n (set bs (pos / 8) y) ≡ set (marks n bs) pos b
  unfolding new
  turned_marks = marks_turned bs new pos b bit_here bit_other n lt

  turned_rest : get_or (set bs (pos / 8) y) (n / 8) 0 < 2 ^ (n % 8)
  turned_rest =
      let P : ℕ → Type 0 = λ x. x < 2 ^ (n % 8) in
      ⊎_elim
      (λ (e : n / 8 ≡ pos / 8).
      let same : get_or (set bs (pos / 8) y) (n / 8) 0 ≡ y = ap (λ j. get_or (set bs (pos / 8) y) j 0) e ∙ get_or-set_same bs (pos / 8) y 0 within in
      let Q : ℕ → Type 0 = λ j. get_or bs j 0 < 2 ^ (n % 8) in
      subst P (sym same) (t.low (n % 8) (subst Q e clean.rest) (omega arith)))
      (λ far. subst P (sym (get_or-set_other bs (pos / 8) (n / 8) y 0 far)) clean.rest)
      (cases_eq (n / 8) (pos / 8))

-- as the code turns a bit: x is the byte, and the power comes by a shift
module _ (n : ℕ) (bs : List ℕ) (pos x : ℕ) (lt : pos < n) (clean : Clean n bs) (e : x ≡ get_or bs (pos / 8) x) where
  byte : x ≡ get_or bs (pos / 8) 0
  byte = get_or_read bs (pos / 8) x (omega (arith, clean.bytes)) e 0

  shifted : 1 * 2 ^ (pos % 8) % 256 ≡ 2 ^ (pos % 8)
  shifted = one_shl (pos % 8) 8 (mod_below pos 8 (omega arith))

  on : Turned (get_or bs (pos / 8) 0) (pos % 8) true (bit_or x (1 * 2 ^ (pos % 8) % 256))
  on = let T : ℕ → ℕ → Type 0 = λ y k. Turned (get_or bs (pos / 8) 0) (pos % 8) true (bit_or y k) in subst (λ k. T x k) (sym shifted) (subst (λ y. T y (2 ^ (pos % 8))) (sym byte) (or_turned _ _))

  pub marks_on : marks n (set bs (pos / 8) (bit_or x (1 * 2 ^ (pos % 8) % 256))) ≡ set (marks n bs) pos true
  marks_on = turned_marks n bs pos _ true lt clean on

  pub rest_on : get_or (set bs (pos / 8) (bit_or x (1 * 2 ^ (pos % 8) % 256))) (n / 8) 0 < 2 ^ (n % 8)
  rest_on = turned_rest n bs pos _ true lt clean on

  off : bit_at bs pos ≡ true → Turned (get_or bs (pos / 8) 0) (pos % 8) false (bit_xor x (1 * 2 ^ (pos % 8) % 256))
  off h = let T : ℕ → ℕ → Type 0 = λ y k. Turned (get_or bs (pos / 8) 0) (pos % 8) false (bit_xor y k) in subst (λ k. T x k) (sym shifted) (subst (λ y. T y (2 ^ (pos % 8))) (sym byte) (xor_turned _ _ h))

  pub marks_off : bit_at bs pos ≡ true → marks n (set bs (pos / 8) (bit_xor x (1 * 2 ^ (pos % 8) % 256))) ≡ set (marks n bs) pos false
  marks_off h = turned_marks n bs pos _ false lt clean (off h)

  pub rest_off : bit_at bs pos ≡ true → get_or (set bs (pos / 8) (bit_xor x (1 * 2 ^ (pos % 8) % 256))) (n / 8) 0 < 2 ^ (n % 8)
  rest_off h = turned_rest n bs pos _ false lt clean (off h)
