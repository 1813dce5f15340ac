-- The lowest number that passes, and so the lowest root that fails: there is none exactly for a codeword.
use Rattle.std.proofs.Common.{◌≡◌, ℕ, zero, suc, ◌+◌, ◌<◌, Bool, true, false, cond, not, eqb, List, Some, None, Option, refl, ap, ◌∙◌, ⊎_elim, add-one, arith, eq-eqb, eqb-true}
use Rattle.std.proofs.lemmas.Bool.{cases_lt}
use Rattle.field.specs.Meaning.{Meaning}
use Rattle.code.specs.Shape.{Shape}
use Rattle.code.specs.Words.{or_else, first_of, lowest, check_sum, Codeword, failing_root}
use Rattle.code.proofs.Finding.{none_first, first_none}

pub lowest_start : (p : ℕ → Bool) → lowest 0 p ≡ None
unfolding first_of
lowest_start p = refl

pub lowest_more : (p : ℕ → Bool) (k : ℕ) → lowest k p ≡ None → p k ≡ false → lowest (k + 1) p ≡ None
unfolding first_of
lowest_more p k none e =
    ap (λ n. lowest n p) (add-one k)
    ∙ ap (λ (o : Option ℕ). or_else o (cond {A = Option ℕ} (p k) (Some k) None)) none
    ∙ ap (λ (b : Bool). cond {A = Option ℕ} b (Some k) None) e

pub lowest_here : (p : ℕ → Bool) (k n : ℕ) → lowest k p ≡ None → p k ≡ true → k < n → lowest n p ≡ Some k
unfolding first_of
lowest_here p k zero none e h = absurd (omega arith)
lowest_here p k (suc n) none e h =
    ⊎_elim
    (λ lt. ap (λ (o : Option ℕ). or_else o (cond {A = Option ℕ} (p n) (Some n) None)) (lowest_here p k n none e lt))
    (λ ge.
    let same : n ≡ k = omega arith in
    ap (λ m. lowest (suc m) p) same
    ∙ ap (λ (o : Option ℕ). or_else o (cond {A = Option ℕ} (p k) (Some k) None)) none
    ∙ ap (λ (b : Bool). cond {A = Option ℕ} b (Some k) None) e)
    (cases_lt k n)

-- a codeword has no failing root
pub codeword_no_failing : (f : Meaning) (c : Shape) (w : List ℕ) → Codeword f c w → failing_root f c w ≡ None
codeword_no_failing f c w all =
    none_first (λ j. cond (not (eqb (check_sum f c w j) 0)) (Some j) None) c.checks
    (λ j h. ap (λ (b : Bool). cond {A = Option ℕ} (not b) (Some j) None) (eq-eqb _ 0 (all j h)))

passed : (b : Bool) (j : ℕ) → ◌≡◌ {A = Option ℕ} (cond (not b) (Some j) None) None → b ≡ true
passed true j e = refl
passed false j e = let z : ◌≡◌ {A = ℕ} 0 1 = cc in absurd (omega arith)

-- a word with no failing root is a codeword
pub no_failing_codeword : (f : Meaning) (c : Shape) (w : List ℕ) → failing_root f c w ≡ None → Codeword f c w
no_failing_codeword f c w none j h =
    eqb-true _ 0 (passed (eqb (check_sum f c w j) 0) j
    (first_none (λ j. cond (not (eqb (check_sum f c w j) 0)) (Some j) None) c.checks none j h))
