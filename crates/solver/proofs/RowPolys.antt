-- The rows of a step: they hold symbols, and what polynomials they are.
use Rattle.std.proofs.Common.{◌≡◌, ℕ, zero, suc, ◌<◌, ◌≤◌, List, get_or, sym, ap, ◌∙◌, arith}
use mathlib.Core.Path.{fun_ext}
use Prim.Native.Nat.{Fin}
use native.Mathlib.Decide.{dec_lt}
use Rattle.algebra.specs.Field.{Field}
use Rattle.algebra.proofs.Convolution as C
use Rattle.algebra.proofs.LeastPair.{sh, mix}
use Rattle.field.specs.Meaning.{Meaning, Laws}
use Rattle.field.specs.Symbols.{Within}
use Rattle.field.specs.Lifted.{lift, poly, sym_of}
use Rattle.field.proofs.Lifting as L
use Rattle.solver.specs.RowSteps.{Raised, Mixed}

pub raised_in : (q size : ℕ) (xs ys : List ℕ) → 0 < q → Within q xs → Raised size xs ys → Within q ys
raised_in q size xs ys pos h r zero = rw r.first pos
raised_in q size xs ys pos h r (suc i) = elim (dec_lt i size) [ yes d ↦ rw (r.moved i d) (h i) | no d ↦ rw (r.rest (suc i) (omega arith)) (h (suc i)) ]

module _ (f : Meaning) (w : Laws f) where
  abbrev F : Field (Fin f.q)
  F = lift f w

  abbrev s : ℕ → Fin f.q
  s = sym_of f w

  pub mixed_in : (c size : ℕ) (xs to ys : List ℕ) → c < f.q → Within f.q xs → Within f.q to → Mixed f c size xs to ys → Within f.q ys
  mixed_in c size xs to ys hc hx ht r i = elim (dec_lt i size) [
    | yes d ↦ rw (r.done i d) (w.sum_in _ _ (ht i) (w.prod_in _ _ hc (hx i)))
    | no d ↦ rw (r.rest i (omega arith)) (ht i)
  ]

  pub raised_poly : (size : ℕ) (xs ys : List ℕ) → Raised size xs ys → ((i : ℕ) → size ≤ i → get_or xs i 0 ≡ 0) → poly f w ys ≡ sh F (poly f w xs)
  raised_poly size xs ys r z = fun_ext each
    where
      each : (i : ℕ) → poly f w ys i ≡ sh F (poly f w xs) i
      each zero = L.nil_to f w _ r.first
      each (suc i) = elim (dec_lt i size) [
        | yes h ↦ ap s (r.moved i h)
        | no h ↦ ap s (r.rest (suc i) (omega arith) ∙ z (suc i) (omega arith) ∙ sym (z i (omega arith)))
      ]

  pub mixed_poly : (c size : ℕ) (xs to ys : List ℕ) → Mixed f c size xs to ys → c < f.q → Within f.q xs → Within f.q to →
      ((i : ℕ) → size ≤ i → get_or xs i 0 ≡ 0) → poly f w ys ≡ mix F (s c) (poly f w xs) (poly f w to)
  mixed_poly c size xs to ys r hc hx ht z = fun_ext each
    where
      each : (i : ℕ) → poly f w ys i ≡ mix F (s c) (poly f w xs) (poly f w to) i
      each i = elim (dec_lt i size) [
        | yes h ↦ ap s (r.done i h) ∙ L.sum_of f w _ _ (ht i) (w.prod_in _ _ hc (hx i)) ∙ ap (F.◌⊕◌ (s (get_or to i 0))) (L.prod_of f w c _ hc (hx i))
        | no h ↦ ap s (r.rest i (omega arith))
            ∙ sym (ap (λ t. F.◌⊕◌ (s (get_or to i 0)) (F.◌⊗◌ (s c) t)) (L.nil_to f w _ (z i (omega arith))) ∙ ap (F.◌⊕◌ (s (get_or to i 0))) (C.mul_o F (s c)) ∙ C.add_o F _)
      ]
