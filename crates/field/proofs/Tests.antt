-- A test at each number below a bound, which antt computes.
use Rattle.std.proofs.Common.{◌≡◌, ℕ, zero, suc, ◌<◌, Bool, true, ◌&&◌, sym, subst, ⊎_elim, not-suc-le-zero}
use native.Mathlib.Nat.{le-suc_iff, suc_inj}
use Rattle.std.proofs.lemmas.Bool.{and_parts}

-- whether each number below n passes
abbrev pub each : ℕ → (ℕ → Bool) → Bool
each zero p = true
each (suc n) p = p n && each n p

pub at : (n : ℕ) (p : ℕ → Bool) → each n p ≡ true → (k : ℕ) → k < n → p k ≡ true
at zero p t k h = absurd (not-suc-le-zero h)
at (suc n) p t k h =
    let s = and_parts (p n) (each n p) t in
    ⊎_elim (λ l. at n p s.1 k l) (λ e. subst (λ (j : ℕ). p j ≡ true) (sym (suc_inj e)) s.0) (le-suc_iff.0 h)
