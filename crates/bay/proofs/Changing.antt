-- A codeword in reach differs in no more positions than there are checks.
use Rattle.std.proofs.Common.{◌≡◌, ℕ, zero, suc, ◌+◌, ◌≤◌, Bool, true, false, cond, not, ◌&&◌, ◌++◌, eqb, eq-eqb, eqb-true, List, [], ◌∷◌, length, get_or, refl, sym, ap, ◌∙◌, ap₂, arith, length-append}
use Rattle.field.specs.Meaning.{Meaning}
use Rattle.code.specs.Shape.{Shape}
use Rattle.code.specs.Words.{count, Near, astray, marked}
use Rattle.code.specs.Distance.{differ}
use Rattle.report.specs.Changes.{which, changes, reportable}
use Rattle.report.proofs.Telling.{few}

one : (n : ℕ) (b : Bool) → length (cond b (n ∷ []) []) ≡ cond b 1 0
one n true = refl
one n false = refl

which_count : (n : ℕ) (p : ℕ → Bool) → length (which n p) ≡ count n p
which_count zero p = refl
which_count (suc n) p = let a = which_count n p in let b = length-append (which n p) (cond (p n) (n ∷ []) []) in let e = one n (p n) in omega arith

-- a change is at a mark, or astray
either : (m d : Bool) → cond d 1 0 ≤ cond (not m && d) 1 0 + cond m 1 0
either true true = omega arith
either true false = omega arith
either false true = omega arith
either false false = omega arith

count_either : (n : ℕ) (m d : ℕ → Bool) → count n d ≤ count n (λ i. not (m i) && d i) + count n m
count_either zero m d = omega arith
count_either (suc n) m d = let a = count_either n m d in let b = either (m n) (d n) in omega arith

pub few_changes : (f : Meaning) (c : Shape) (marks : List Bool) (w v : List ℕ) → Near f c marks w v → length w ≡ c.n → c.checks ≤ 512 → length (changes w v) ≤ 512
few_changes f c marks w v near l h =
    let a = which_count (length w) (differ v w) in
    let e : count (length w) (differ v w) ≡ count c.n (differ v w) = ap (λ n. count n (differ v w)) l in
    let b : count c.n (differ v w) ≤ astray c marks w v + marked c marks = count_either c.n (λ i. get_or marks i false) (differ v w) in
    omega (arith, near.reach)

same_answer : (a b : Bool) → (a ≡ true → b ≡ true) → (b ≡ true → a ≡ true) → a ≡ b
same_answer true b f g = sym (f refl)
same_answer false true f g = g refl
same_answer false false f g = refl

eqb_turn : (x y : ℕ) → eqb x y ≡ eqb y x
eqb_turn x y = same_answer (eqb x y) (eqb y x) (λ e. eq-eqb y x (sym (eqb-true x y e))) (λ e. eq-eqb x y (sym (eqb-true y x e)))

which_same : (n : ℕ) (p q : ℕ → Bool) → ((i : ℕ) → p i ≡ q i) → which n p ≡ which n q
which_same zero p q e = refl
which_same (suc n) p q e = ap₂ (λ (l : List ℕ) (b : Bool). l ++ cond b (n ∷ []) []) (which_same n p q e) (e n)

-- the same positions change from v to w
changes_back : (w v : List ℕ) → length v ≡ length w → changes v w ≡ changes w v
changes_back w v e =
    ap (λ n. which n (differ w v)) e
    ∙ which_same (length w) (differ w v) (differ v w) (λ i. ap not (eqb_turn (get_or w i 0) (get_or v i 0)))

-- so what can be told one way can be told the other way
pub few_back : (w v : List ℕ) → length v ≡ length w → length w ≤ 928 → length (changes w v) ≤ 512 → true ≡ reportable v w
few_back w v e n c = let same = ap length (changes_back w v e) in few v w (sym e) (omega arith) (omega arith)
