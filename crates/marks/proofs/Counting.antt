-- The ones in the bytes of a clean map are its marked positions.
use Rattle.std.proofs.Common.{◌≡◌, ℕ, zero, suc, ◌+◌, ◌*◌, ◌/◌, ◌%◌, ◌^◌, ◌<◌, ◌≤◌, Bool, cond, eqb, List, length, get_or, take, sum_by, count_by, sym, refl, ap, ◌∙◌, subst, ⊎_elim, add-zero, add_assoc, mod-eq_of_lt, add_comm, add-one, arith}
use native.Mathlib.Nat.{mod-one}
use lib.Count.{ones, ones_cat}
use Rattle.std.proofs.lemmas.Nat.{mod-pow-add, mod_below, pow_pos}
use Rattle.std.proofs.lemmas.List.FromFn.{sum_by-map-range_with_len_more}
use Rattle.std.proofs.lemmas.List.Sums.{sum_by_more}
use Rattle.std.proofs.lemmas.List.{take_all}
use Rattle.std.proofs.lemmas.Bool.{cases_lt}
use Rattle.marks.specs.Marks.{bit_at, marks, Clean}

-- how many of the first n positions are marked
marked : ℕ → List ℕ → ℕ
marked n bs = count_by (λ b. b) (marks n bs)

-- a digit of two values, as a number and as a test
bit_one : (d : ℕ) → d < 2 → cond (eqb d 1) 1 0 ≡ d
bit_one zero h = refl
bit_one (suc zero) h = refl
bit_one (suc (suc d)) h = absurd (omega arith)

ones_bit : (d : ℕ) → d < 2 → ones d ≡ d
unfolding ones
ones_bit zero h = refl
ones_bit (suc zero) h = refl
ones_bit (suc (suc d)) h = absurd (omega arith)

marked_more : (n : ℕ) (bs : List ℕ) → marked (n + 1) bs ≡ marked n bs + get_or bs (n / 8) 0 / 2 ^ (n % 8) % 2
unfolding marked marks
marked_more n bs = sum_by-map-range_with_len_more (λ (b : Bool). cond b 1 0) (bit_at bs) 0 n n (omega arith) ∙ ap (λ x. marked n bs + x) (bit_one _ (mod_below _ 2 (omega arith)))

-- the low k + 1 bits
ones_low : (b k : ℕ) → ones (b % 2 ^ (k + 1)) ≡ ones (b % 2 ^ k) + b / 2 ^ k % 2
ones_low b k =
    let d = b / 2 ^ k % 2 in
    let low : d < 2 = mod_below _ 2 (omega arith) in
    ap (λ e. ones (b % 2 ^ e)) (add_comm k 1)
    ∙ ap ones (mod-pow-add b 1 k)
    ∙ ones_cat k d (b % 2 ^ k) (mod_below b (2 ^ k) (pow_pos k))
    ∙ ap (λ x. x + ones (b % 2 ^ k)) (ones_bit d low)
    ∙ add_comm d (ones (b % 2 ^ k))

-- what is counted below n: the whole bytes, and the low bits of the next
total : List ℕ → ℕ → ℕ → ℕ
total bs i k = sum_by ones (take i bs) + ones (get_or bs i 0 % 2 ^ k)

total_none : (bs : List ℕ) (i : ℕ) → total bs i 0 ≡ sum_by ones (take i bs)
unfolding total ones
total_none bs i = ap (λ x. sum_by ones (take i bs) + ones x) (mod-one (get_or bs i 0)) ∙ add-zero _

total_low : (bs : List ℕ) (i k : ℕ) → total bs i (k + 1) ≡ total bs i k + get_or bs i 0 / 2 ^ k % 2
unfolding total
total_low bs i k = ap (λ x. sum_by ones (take i bs) + x) (ones_low (get_or bs i 0) k) ∙ sym (add_assoc _ _ _)

total_byte : (bs : List ℕ) (i : ℕ) → i < length bs → get_or bs i 0 < 256 → total bs i 8 ≡ total bs (i + 1) 0
unfolding total
total_byte bs i h small =
    ap (λ x. sum_by ones (take i bs) + ones x) (mod-eq_of_lt small)
    ∙ sym (sum_by_more ones bs i 0 h)
    ∙ sym (total_none bs (i + 1))

step_low : (n : ℕ) → n % 8 < 7 → ((n + 1) / 8 ≡ n / 8) × ((n + 1) % 8 ≡ n % 8 + 1)
step_low n h = (omega arith, omega arith)

step_high : (n : ℕ) → 7 ≤ n % 8 → ((n + 1) / 8 ≡ n / 8 + 1) × ((n + 1) % 8 ≡ 0) × (n % 8 ≡ 7)
step_high n h = (omega arith, omega arith, omega arith)

marked_zero : (bs : List ℕ) → marked 0 bs ≡ total bs 0 0
unfolding marked marks
marked_zero bs = sym (total_none bs 0)

marked_next : (n : ℕ) (bs : List ℕ) → ((i : ℕ) → get_or bs i 0 < 256) → n < 8 * length bs → marked n bs ≡ total bs (n / 8) (n % 8) → marked (n + 1) bs ≡ total bs ((n + 1) / 8) ((n + 1) % 8)
marked_next n bs small h e =
    let more : marked (n + 1) bs ≡ total bs (n / 8) (n % 8 + 1) =
    marked_more n bs ∙ ap (λ x. x + get_or bs (n / 8) 0 / 2 ^ (n % 8) % 2) e ∙ sym (total_low bs (n / 8) (n % 8)) in
    ⊎_elim
    (λ low. let s = step_low n low in more ∙ sym (ap (λ i. total bs i ((n + 1) % 8)) s.0 ∙ ap (λ k. total bs (n / 8) k) s.1))
    (λ high. let s = step_high n high in
    more ∙ ap (λ k. total bs (n / 8) (k + 1)) s.2 ∙ total_byte bs (n / 8) (omega arith) (small (n / 8))
    ∙ sym (ap (λ i. total bs i ((n + 1) % 8)) s.0 ∙ ap (λ k. total bs (n / 8 + 1) k) s.1))
    (cases_lt (n % 8) 7)

marked_is : (n : ℕ) (bs : List ℕ) → ((i : ℕ) → get_or bs i 0 < 256) → n ≤ 8 * length bs → marked n bs ≡ total bs (n / 8) (n % 8)
marked_is zero bs small h = marked_zero bs
marked_is (suc n) bs small h =
    let P : ℕ → Type 0 = λ m. marked m bs ≡ total bs (m / 8) (m % 8) in
    subst P (add-one n) (marked_next n bs small (omega arith) (marked_is n bs small (omega arith)))

total_clean : (n : ℕ) (bs : List ℕ) → Clean n bs → total bs (n / 8) (n % 8) ≡ sum_by ones bs
unfolding total
total_clean n bs clean =
    ⊎_elim
    (λ part. let h : n / 8 < length bs = omega arith in
    ap (λ x. sum_by ones (take (n / 8) bs) + ones x) (mod-eq_of_lt clean.rest)
    ∙ sym (sum_by_more ones bs (n / 8) 0 h)
    ∙ ap (sum_by ones) (take_all (n / 8 + 1) bs (omega arith)))
    (λ whole. let e : n % 8 ≡ 0 = omega arith in
    ap (λ k. total bs (n / 8) k) e ∙ total_none bs (n / 8) ∙ ap (sum_by ones) (take_all (n / 8) bs (omega arith)))
    (cases_lt 0 (n % 8))

pub ones_marked : (n : ℕ) (bs : List ℕ) → ((i : ℕ) → get_or bs i 0 < 256) → Clean n bs → sum_by ones bs ≡ count_by (λ b. b) (marks n bs)
unfolding marked
ones_marked n bs small clean = sym (marked_is n bs small (omega arith) ∙ total_clean n bs clean)
