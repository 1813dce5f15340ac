-- What each way out of the reading of a line says.
use Rattle.std.proofs.Common.{◌≡◌, ℕ, Some, None, Option, MatchOption, IsSomeAnd, ◌∷◌, arith, rules, ltb-false, ltb-true}
use Rattle.text.specs.Lines.{Spells, Says}
use Rattle.text.proofs.Saying.{rest, says_one, says_numbers, nothing_numbers, nothing_other}
use Rattle.text.proofs.line.read_line.Goals as goal
use Rattle.text.proofs.line.read_line.Goals.{in_default-via-then-line-lt1, in_default-via-else-line-lt1+else-line-lt2+in_default-1}

-- what is made of a value that there may be
mapped : {A B : Type 0} {N M : Type 0} {S : A → Type 0} {T : B → Type 0} (o : Option A) (r : Option B) (post : A → B → Type 0)
    → MatchOption o (r ≡ None) (λ x. IsSomeAnd r (post x)) → MatchOption o N S → (N → M) → ((x : A) → S x → (y : B) → post x y → T y) → MatchOption r M T
mapped None None post cases was none some = none was
mapped None (Some y) post cases was none some = let z : ◌≡◌ {A = ℕ} 0 1 = cc in absurd (omega arith)
mapped (Some x) None post cases was none some = absurd cases
mapped (Some x) (Some y) post cases was none some = some x was y cases

pub returns-in_ok-found-in-32-clause-said : goal.returns-in_ok-found-in-32-clause-said
returns-in_ok-found-in-32-clause-said c =
    let line = c.args.line.now in
    let nothing = nothing_numbers line (omega (arith, ltb-false)) (omega arith) in
    mapped {S = λ numbers. Spells (32 ∷ rest line) numbers.items} {T = λ s. Says line s.letter s.numbers.items} c.in_ok-found-in-32.found c.map.result _ c.map.ensures.cases c.in_ok-found-in-32.ensures nothing
    (λ numbers spells s is. let says = says_numbers line numbers.items (omega (arith, ltb-false)) (omega arith) (omega arith) spells in search rules)

pub returns-in_default-clause-said : goal.returns-in_default-clause-said
returns-in_default-clause-said c =
    let other = nothing_other c.args.line.now in
    elim c.in_default.branch [
      | in_default-via-then-line-lt1 w ↦ other (λ one. omega (arith, ltb-true)) (λ two space. omega (arith, ltb-true))
      | in_default-via-else-line-lt1+else-line-lt2+in_default-1 w ↦ other (λ one. omega (arith, ltb-false)) (λ two space. omega arith)
    ]

-- no line says two things, at each way out
pub returns-then-line-gt-LONGEST_LINE-clause-only : goal.returns-then-line-gt-LONGEST_LINE-clause-only
returns-then-line-gt-LONGEST_LINE-clause-only c = says_one

pub returns-in_err-found-in-32-clause-only : goal.returns-in_err-found-in-32-clause-only
returns-in_err-found-in-32-clause-only c = says_one

pub returns-in-len1-clause-only : goal.returns-in-len1-clause-only
returns-in-len1-clause-only c = says_one

pub returns-in_ok-found-in-32-clause-only : goal.returns-in_ok-found-in-32-clause-only
returns-in_ok-found-in-32-clause-only c = says_one

pub returns-in_default-clause-only : goal.returns-in_default-clause-only
returns-in_default-clause-only c = says_one
