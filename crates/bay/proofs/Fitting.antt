-- The word of a bay fits its code, and the code the field.
use Rattle.std.proofs.Common.{◌≡◌, ℕ, ◌<◌, ◌≤◌, Bool, true, List, length, Some, None, Ok, Option, sym, ap, ◌∙◌, subst, arith, le-ltb, eq-eqb}
use borrow.Author.Tests.{lt-leb}
use Rattle.field.specs.Meaning.{Meaning}
use Rattle.field.specs.Symbols.{all_below}
use Rattle.code.specs.declared.Code.{Code}
use Rattle.code.specs.Shape.{Shape, shape}
use Rattle.code.specs.Words.{Word}
use Rattle.corrector.specs.Corrected.{fitting_erased}
use Rattle.bay.specs.Shapes.{width, root, shaped}

pub record Fits (f : Meaning) (c : Shape) (w : List ℕ) : Type 0 where
  pub turn : c.n ≤ f.m
  pub start : c.first < f.m
  pub word : Word f.q c.n w

-- from what a bay keeps of its code and word
pub fits_kept : (f : Meaning) (q m : ℕ) (o : Option Code) (d : Code) (w : List ℕ) → f.q ≡ q → f.m ≡ m → o ≡ Some d
    → width o ≤ m → root o < m → length w ≡ width o → all_below q w ≡ true → Fits f (shape d) w
fits_kept f q m o d w size turn e n b l s = record {
  turn = subst (λ k. d.n ≤ k) (sym turn) (subst (λ k. k ≤ m) (ap width e) n);
  start = subst (λ k. d.first < k) (sym turn) (subst (λ k. k < m) (ap root e) b);
  word = record { long = l ∙ ap width e; symbols = ap (λ k. all_below k w) size ∙ s };
}

pub code_in : (m : ℕ) (o : Option Code) → width o ≤ m → (c : Shape) → shaped o ≡ Some c → c.n ≤ m
code_in m (Some d) h c e = let same : shape d ≡ c = cc in subst (λ (x : Shape). x.n ≤ m) same h
code_in m None h c e = let z : ◌≡◌ {A = ℕ} 0 1 = cc in absurd (omega arith)

module _ (f : Meaning) (c : Shape) (w : List ℕ) (h : Fits f c w) where
  pub fits_erased : (erased : List Bool) → length erased ≡ c.n → fitting_erased f c erased w ≡ Ok tt
  fits_erased erased l =
      simp (le-ltb f.m c.n h.turn, lt-leb f.m c.first h.start, eq-eqb (length w) c.n h.word.long, eq-eqb (length erased) c.n l, h.word.symbols)
