-- A row written place by place, from its start on.
use Rattle.std.proofs.Common.{◌≡◌, ℕ, ◌+◌, ◌<◌, ◌≤◌, List, length, get_or, set, sym, ◌∙◌, subst, arith, get_or-set_other, get_or-set_same}
use native.Mathlib.Decide.{ℕ_discrete}

-- in the first n places new is to old as P asks, and after them it is old
pub record Written (P : ℕ → ℕ → ℕ → Type 0) (n : ℕ) (old new : List ℕ) : Type 0 where
  pub done : (i : ℕ) → i < n → P i (get_or old i 0) (get_or new i 0)
  pub rest : (i : ℕ) → n ≤ i → get_or new i 0 ≡ get_or old i 0

module _ (P : ℕ → ℕ → ℕ → Type 0) where
  -- one place more
  pub written_more : (n : ℕ) (old new : List ℕ) (x : ℕ) → n < length new → Written P n old new → P n (get_or new n 0) x → Written P (n + 1) old (set new n x)
  written_more n old new x h s p = record {
    done = λ i k. elim (ℕ_discrete i n) [
      | yes z ↦ subst (λ j. P j (get_or old j 0) (get_or (set new n x) j 0)) (sym z) (rw (get_or-set_same new n x 0 h) (subst (λ y. P n y x) (s.rest n (omega arith)) p))
      | no z ↦ rw (get_or-set_other new n i x 0 z) (s.done i (omega arith))
    ];
    rest = λ i k. get_or-set_other new n i x 0 (λ z. omega arith) ∙ s.rest i (omega arith);
  }
