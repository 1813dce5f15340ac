-- That a reciprocal is found by its product, and that there is just one.
use Rattle.std.proofs.Common.{◌≡◌, ℕ, zero, suc, ◌-◌, ◌/◌, ◌%◌, ◌<◌, Bool, true, cond, ◌&&◌, ◌||◌, eqb, ltb, ◌≢◌, sym, ap, ◌∙◌, ⊎_elim, arith}
use native.Mathlib.Nat.{le-suc_iff, suc_inj}
use Rattle.std.proofs.lemmas.Bool.{both_ways, and_parts, or_cases, eqb-true, ltb-true, eq-eqb, cond_both}
use Rattle.field.specs.Meaning.{Meaning, Laws}
use Rattle.field.specs.Reciprocal.{reciprocal_below}
use Rattle.field.proofs.Tests.{each, at}

-- where some number below n gives 1 with x, the one that is found does
pub found : (prod : ℕ → ℕ → ℕ) (n x k : ℕ) → k < n → prod x k ≡ 1
    → (reciprocal_below prod n x < n) × (prod x (reciprocal_below prod n x) ≡ 1)
unfolding reciprocal_below
found prod zero x k h e = absurd (omega arith)
found prod (suc n) x k h e =
    cond_both (eqb (prod x n) 1) n (reciprocal_below prod n x) (λ r. (r < suc n) × (prod x r ≡ 1))
    (λ t. (omega arith, eqb-true _ 1 t))
    (λ t. ⊎_elim (λ l. let r = found prod n x k l e in (omega (arith, r.0), r.1))
    (λ s. absurd (both_ways _ t (eq-eqb (prod x n) 1 (ap (prod x) (sym (suc_inj s)) ∙ e))))
    (le-suc_iff.0 h))

module _ (f : Meaning) where
  -- x to the number that the n lowest bits of e write
  abbrev raised : ℕ → ℕ → ℕ → ℕ
  raised zero x e = 1
  raised (suc n) x e = f.prod (cond (eqb (e % 2) 1) x 1) (raised n (f.prod x x) (e / 2))

  -- whether x to the q - 2 is a symbol that gives 1 with x
  abbrev turned : ℕ → ℕ → Bool
  turned n x = eqb x 0 || (ltb (raised n x (f.q - 2)) f.q && eqb (f.prod x (raised n x (f.q - 2))) 1)

  -- whether it does for every symbol but 0
  abbrev pub all_turned : ℕ → Bool
  all_turned n = each f.q (turned n)

  pub recip_found : (n : ℕ) → all_turned n ≡ true → (x : ℕ) → x < f.q → x ≢ 0
      → (reciprocal_below f.prod f.q x < f.q) × (f.prod x (reciprocal_below f.prod f.q x) ≡ 1)
  recip_found n t x h nz =
      let r = raised n x (f.q - 2) in
      ⊎_elim (λ e. absurd (nz (eqb-true x 0 e)))
      (λ s. let p = and_parts (ltb r f.q) (eqb (f.prod x r) 1) s in
      found f.prod f.q x r (ltb-true r f.q p.0) (eqb-true _ 1 p.1))
      (or_cases (eqb x 0) _ (at f.q (turned n) t x h))

pub recip_unique : (f : Meaning) → Laws f → (x r : ℕ) → x < f.q → x ≢ 0 → r < f.q → f.prod x r ≡ 1 → r ≡ f.recip x
recip_unique f l x r hx nz hr e =
    let hi = l.recip_in x hx nz in
    let one : 1 < f.q = l.q_low in
    sym (l.prod_one r hr) ∙ ap (f.prod r) (sym (l.prod_recip x hx nz)) ∙ sym (l.prod_assoc r x (f.recip x) hr hx hi)
    ∙ ap (λ (y : ℕ). f.prod y (f.recip x)) (l.prod_comm r x hr hx ∙ e)
    ∙ l.prod_comm 1 (f.recip x) one hi ∙ l.prod_one (f.recip x) hi
