-- The value of a row of symbols, with the turn and the number of symbols as the types have them.
use Rattle.std.proofs.Common.{◌≡◌, ℕ, ◌-◌, List, sym, ap, ◌∙◌, subst}
use Rattle.field.specs.Meaning.{Meaning}
use Rattle.field.specs.Symbols.{Within, known}
use Rattle.field.specs.Sums.{weighed}
use Rattle.field.proofs.Symbols.{known_within}

module _ (f : Meaning) (Q : ℕ) (size : f.q ≡ Q) (row : List ℕ) (inside : Within Q row) where
  -- a row of symbols counts as it stands
  pub counts : known f.q row ≡ row
  counts = known_within f.q row (subst (λ (q : ℕ). Within q row) (sym size) inside)

  pub valued : (t x : ℕ) → x ≡ weighed f (known f.q row) t → x ≡ weighed f row t
  valued t x e = e ∙ ap (λ (xs : List ℕ). weighed f xs t) counts

  pub valued_back : (M i x : ℕ) → f.m ≡ M → x ≡ weighed f (known f.q row) (M - i) → x ≡ weighed f row (f.m - i)
  valued_back M i x turn e = valued (M - i) x e ∙ ap (λ (m : ℕ). weighed f row (m - i)) (sym turn)
