-- Rows of symbols below q.
use Rattle.std.proofs.Common.{◌≡◌, ℕ, zero, suc, ◌<◌, ◌≤◌, true, cond, ltb, List, [], ◌∷◌, length, get_or, set, replicate, refl, ap, ap₂, arith, ltb-true, lt-ltb, le-ltb}
use Rattle.std.proofs.lemmas.Bool.{and_parts, and_from}
use Rattle.field.specs.Symbols.{all_below, Symbols, Within, known}

pub symbol_at : (q : ℕ) (ws : List ℕ) (i : ℕ) → all_below q ws ≡ true → i < length ws → get_or ws i 0 < q
symbol_at q [] i s h = absurd (omega arith)
symbol_at q (w ∷ ws) zero s h = ltb-true w q (and_parts (ltb w q) (all_below q ws) s).0
symbol_at q (w ∷ ws) (suc i) s h = symbol_at q ws i (and_parts (ltb w q) (all_below q ws) s).1 (omega arith)

pub below_set : (q : ℕ) (ws : List ℕ) (i x : ℕ) → all_below q ws ≡ true → x < q → all_below q (set ws i x) ≡ true
below_set q [] i x s h = s
below_set q (w ∷ ws) zero x s h = and_from (ltb x q) (all_below q ws) (lt-ltb x q h) (and_parts (ltb w q) (all_below q ws) s).1
below_set q (w ∷ ws) (suc i) x s h =
    let p = and_parts (ltb w q) (all_below q ws) s in
    and_from (ltb w q) (all_below q (set ws i x)) p.0 (below_set q ws i x p.1 h)

pub below_zeros : (q n : ℕ) → 0 < q → all_below q (replicate n 0) ≡ true
below_zeros q zero h = refl
below_zeros q (suc n) h = and_from (ltb 0 q) (all_below q (replicate n 0)) (lt-ltb 0 q h) (below_zeros q n h)

-- every place of a row that passes the test
pub within_from : (q : ℕ) (ws : List ℕ) → 0 < q → all_below q ws ≡ true → Within q ws
within_from q [] h s i = h
within_from q (w ∷ ws) h s zero = ltb-true w q (and_parts (ltb w q) (all_below q ws) s).0
within_from q (w ∷ ws) h s (suc i) = within_from q ws h (and_parts (ltb w q) (all_below q ws) s).1 i

-- the test passes where each number is below q
pub below_from : (q : ℕ) (ws : List ℕ) → Symbols q ws → all_below q ws ≡ true
below_from q [] s = refl
below_from q (w ∷ ws) s = and_from (ltb w q) (all_below q ws) (lt-ltb w q (s 0 (omega arith))) (below_from q ws (λ i h. s (suc i) (omega arith)))

-- where all numbers are symbols, each counts as what it is
pub known_all : (q : ℕ) (ws : List ℕ) → all_below q ws ≡ true → known q ws ≡ ws
known_all q [] s = refl
known_all q (w ∷ ws) s =
    let p = and_parts (ltb w q) (all_below q ws) s in
    ap₂ (λ (x : ℕ) xs. x ∷ xs) (ap (λ b. cond b w 0) p.0) (known_all q ws p.1)

pub known_within : (q : ℕ) (ws : List ℕ) → Within q ws → known q ws ≡ ws
known_within q ws h = known_all q ws (below_from q ws (λ i _. h i))

pub known_length : (q : ℕ) (ws : List ℕ) → length (known q ws) ≡ length ws
known_length q [] = refl
known_length q (w ∷ ws) = ap (λ (n : ℕ). suc n) (known_length q ws)

-- what stands at a place
pub known_symbol : (q : ℕ) (ws : List ℕ) (i : ℕ) → get_or ws i 0 < q → get_or (known q ws) i 0 ≡ get_or ws i 0
known_symbol q [] i h = refl
known_symbol q (w ∷ ws) zero h = ap (λ b. cond b w 0) (lt-ltb w q h)
known_symbol q (w ∷ ws) (suc i) h = known_symbol q ws i h

pub known_other : (q : ℕ) (ws : List ℕ) (i : ℕ) → q ≤ get_or ws i 0 → get_or (known q ws) i 0 ≡ 0
known_other q [] i h = refl
known_other q (w ∷ ws) zero h = ap (λ b. cond b w 0) (le-ltb w q h)
known_other q (w ∷ ws) (suc i) h = known_other q ws i h
