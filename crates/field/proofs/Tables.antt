-- What stands at each place of a table of powers, and of a table of logarithms.
use Rattle.std.proofs.Common.{◌≡◌, ℕ, zero, suc, ◌+◌, ◌%◌, ◌<◌, true, eqb, ltb, List, [], ◌∷◌, length, get_or, sym, refl, ap, ◌∙◌, subst, add-zero, add-suc, mod-lt, suc-add, zero-add, arith}
use Rattle.std.proofs.lemmas.Bool.{and_parts, eqb-true, ltb-true}
use Rattle.field.specs.Meaning.{Meaning, Laws, pow}
use Rattle.field.specs.Tables.{climb, turn, locates, Logarithms}
use Rattle.field.proofs.Powers.{pow_mod}

climb_at : (f : Meaning) (n k i : ℕ) → i < n → get_or (climb f n (pow f f.a k)) i 0 ≡ pow f f.a (k + i)
climb_at f zero k i h = absurd (omega arith)
climb_at f (suc n) k zero h = ap (pow f f.a) (sym (add-zero k))
climb_at f (suc n) k (suc i) h = climb_at f n (suc k) i (omega arith) ∙ ap (pow f f.a) (suc-add k i ∙ sym (add-suc k i))

climb_length : (f : Meaning) (n x : ℕ) → length (climb f n x) ≡ n
climb_length f zero x = refl
climb_length f (suc n) x = ap suc (climb_length f n (f.prod f.a x))

pub power_at : (f : Meaning) (i : ℕ) → i < f.m → get_or (turn f) i 0 ≡ pow f f.a i
unfolding turn
power_at f i h = climb_at f f.m 0 i h ∙ ap (pow f f.a) (zero-add i)

locates_at : (ps ls : List ℕ) (x i : ℕ) → locates ps x ls ≡ true → i < length ls
    → (get_or ls i 0 < length ps) × (get_or ps (get_or ls i 0) 0 ≡ x + i)
locates_at ps [] x i t h = absurd (omega arith)
locates_at ps (l ∷ ls) x zero t h =
    let s = and_parts (ltb l (length ps)) _ t in
    (ltb-true l _ s.0, eqb-true _ x (and_parts (eqb (get_or ps l 0) x) _ s.1).0 ∙ sym (add-zero x))
locates_at ps (l ∷ ls) x (suc i) t h =
    let s = and_parts (ltb l (length ps)) _ t in
    let r = locates_at ps ls (suc x) i (and_parts (eqb (get_or ps l 0) x) _ s.1).1 (omega arith) in
    (r.0, r.1 ∙ suc-add x i ∙ sym (add-suc x i))

-- the logarithm of 1 + i stands at i
pub logarithm_at : (f : Meaning) (ls : List ℕ) (i : ℕ) → Logarithms f ls → i < length ls
    → (get_or ls i 0 < f.m) × (pow f f.a (get_or ls i 0) ≡ 1 + i)
unfolding Logarithms turn
logarithm_at f ls i t h =
    let r = locates_at (turn f) ls 1 i t h in
    let b : get_or ls i 0 < f.m = subst (λ (n : ℕ). get_or ls i 0 < n) (climb_length f f.m 1) r.0 in
    (b, sym (power_at f (get_or ls i 0) b) ∙ r.1)

-- what a table of one whole turn holds at k is a to the k
pub power_held : (f : Meaning) (ps : List ℕ) → ps ≡ turn f → (i k x : ℕ) → i < f.m → k ≡ i → x ≡ get_or ps k 0 → x ≡ pow f f.a i
power_held f ps t i k x h same read =
    read ∙ ap (λ (qs : List ℕ). get_or qs k 0) t ∙ ap (λ (j : ℕ). get_or (turn f) j 0) same ∙ power_at f i h

-- and at i, counted round, a to the i
pub power_round : (f : Meaning) → Laws f → (ps : List ℕ) → ps ≡ turn f → (i k x : ℕ) → k ≡ i % f.m → x ≡ get_or ps k 0 → x ≡ pow f f.a i
power_round f l ps t i k x round read = power_held f ps t (i % f.m) k x (mod-lt i l.m_low) round read ∙ pow_mod f l i
