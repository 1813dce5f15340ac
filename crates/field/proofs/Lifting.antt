-- From numbers and rows of numbers to symbols and polynomials of the field that a meaning stands for.
use Rattle.std.proofs.Common.{◌≡◌, ℕ, zero, suc, ◌-◌, ◌*◌, ◌<◌, List, get_or, sym, ap, ◌∙◌, ap₂, mod-eq_of_lt, suc-mul, zero-mul, arith}
use Prim.Native.Nat.{Fin}
use Rattle.field.specs.Meaning.{Meaning, Laws, pow}
use Rattle.field.specs.Symbols.{Within}
use Rattle.field.specs.Sums.{value, coefficient}
use Rattle.field.specs.Sums as N
use Rattle.field.specs.Lifted.{lift, poly, sym_of}
use Rattle.field.proofs.Powers as P
use Rattle.algebra.specs.Field.{Field}
use Rattle.algebra.specs.Poly.{conv}
use Rattle.algebra.proofs.Sums as S
use Rattle.algebra.proofs.Roots as R
use Rattle.algebra.proofs.Division as D

module _ (f : Meaning) (w : Laws f) where
  abbrev F : Field (Fin f.q)
  F = lift f w

  abbrev s : ℕ → Fin f.q
  s = sym_of f w

  pub zero_of : s 0 ≡ F.𝟘
  zero_of = native.Mathlib.Fin.val_path (mod-eq_of_lt (omega (arith, w.q_low)))

  pub one_of : s 1 ≡ F.𝟙
  one_of = native.Mathlib.Fin.val_path (mod-eq_of_lt (omega (arith, w.q_low)))

  pub sum_of : (x y : ℕ) → x < f.q → y < f.q → s (f.sum x y) ≡ F.◌⊕◌ (s x) (s y)
  sum_of x y hx hy = native.Mathlib.Fin.val_path (mod-eq_of_lt (w.sum_in x y hx hy) ∙ ap₂ f.sum (sym (mod-eq_of_lt hx)) (sym (mod-eq_of_lt hy)))

  pub prod_of : (x y : ℕ) → x < f.q → y < f.q → s (f.prod x y) ≡ F.◌⊗◌ (s x) (s y)
  prod_of x y hx hy = native.Mathlib.Fin.val_path (mod-eq_of_lt (w.prod_in x y hx hy) ∙ ap₂ f.prod (sym (mod-eq_of_lt hx)) (sym (mod-eq_of_lt hy)))

  pub opp_of : (x : ℕ) → x < f.q → s (f.opp x) ≡ F.neg (s x)
  opp_of x hx = native.Mathlib.Fin.val_path (mod-eq_of_lt (w.opp_in x hx) ∙ ap f.opp (sym (mod-eq_of_lt hx)))

  pub recip_of : (x : ℕ) → x < f.q → s (f.recip x) ≡ F.inv (s x)
  recip_of x hx = ap (λ t. s (f.recip t)) (sym (mod-eq_of_lt hx))

  pub same_of : (x y : ℕ) → x < f.q → y < f.q → s x ≡ s y → x ≡ y
  same_of x y hx hy e = sym (mod-eq_of_lt hx) ∙ ap (λ (t : Fin f.q). t.0) e ∙ mod-eq_of_lt hy

  pub nil_of : (x : ℕ) → x < f.q → s x ≡ F.𝟘 → x ≡ 0
  nil_of x hx e = same_of x 0 hx (omega (arith, w.q_low)) (e ∙ sym zero_of)

  pub nil_to : (x : ℕ) → x ≡ 0 → s x ≡ F.𝟘
  nil_to x e = ap s e ∙ zero_of

  pub pow_of : (x n : ℕ) → x < f.q → s (pow f x n) ≡ R.pow F (s x) n
  pow_of x zero h = one_of ∙ sym (R.pow_o F (s x))
  pow_of x (suc n) h = prod_of x (pow f x n) h (P.pow_in f w x n h) ∙ ap (F.◌⊗◌ (s x)) (pow_of x n h) ∙ sym (R.pow_suc F (s x) n)

  pub pow_mul : (x i t : ℕ) → x < f.q → pow f x (i * t) ≡ pow f (pow f x t) i
  pow_mul x zero t h = ap (pow f x) (zero-mul t)
  pow_mul x (suc i) t h =
      ap (pow f x) (suc-mul i t) ∙ P.pow_add f w x (i * t) t h
      ∙ w.prod_comm _ _ (P.pow_in f w x (i * t) h) (P.pow_in f w x t h) ∙ ap (f.prod (pow f x t)) (pow_mul x i t h)

  -- the root a^t
  abbrev pub root : ℕ → Fin f.q
  root t = s (pow f f.a t)

  pub total_in : (n : ℕ) (h : ℕ → ℕ) → ((i : ℕ) → h i < f.q) → N.sum_of f n h < f.q
  total_in zero h d = omega (arith, w.q_low)
  total_in (suc n) h d = w.sum_in _ _ (total_in n h d) (d n)

  pub total_of : (n : ℕ) (h : ℕ → ℕ) → ((i : ℕ) → h i < f.q) → s (N.sum_of f n h) ≡ S.sum F n (λ i. s (h i))
  total_of zero h d = zero_of ∙ sym (S.sum_o F _)
  total_of (suc n) h d = sum_of _ _ (total_in n h d) (d n) ∙ ap (λ t. F.◌⊕◌ t (s (h n))) (total_of n h d) ∙ sym (S.sum_last F n _)

  term_in : (xs : List ℕ) (t : ℕ) → Within f.q xs → (i : ℕ) → f.prod (get_or xs i 0) (pow f f.a (i * t)) < f.q
  term_in xs t h i = w.prod_in _ _ (h i) (P.pow_in f w f.a (i * t) w.a_high)

  pub value_in : (n : ℕ) (xs : List ℕ) (t : ℕ) → Within f.q xs → value f n xs t < f.q
  value_in n xs t h = total_in n _ (term_in xs t h)

  pub value_of : (n : ℕ) (xs : List ℕ) (t : ℕ) → Within f.q xs → s (value f n xs t) ≡ R.ev F n (poly f w xs) (root t)
  value_of n xs t h =
      total_of n _ (term_in xs t h)
      ∙ S.sum_cong F n _ _ (λ i k. prod_of _ _ (h i) (P.pow_in f w f.a (i * t) w.a_high)
      ∙ ap (F.◌⊗◌ (s (get_or xs i 0))) (ap s (pow_mul f.a i t w.a_high) ∙ pow_of _ i (P.pow_in f w f.a t w.a_high)))
      ∙ sym (D.ev_sum F n (poly f w xs) (root t))

  pub coefficient_in : (k : ℕ) (b g : List ℕ) → Within f.q b → Within f.q g → coefficient f k b g < f.q
  coefficient_in k b g hb hg = total_in (suc k) _ (λ i. w.prod_in _ _ (hb i) (hg (k - i)))

  pub coefficient_of : (k : ℕ) (b g : List ℕ) → Within f.q b → Within f.q g → s (coefficient f k b g) ≡ conv F k (poly f w b) (poly f w g)
  coefficient_of k b g hb hg =
      total_of (suc k) _ (λ i. w.prod_in _ _ (hb i) (hg (k - i)))
      ∙ S.sum_cong F (suc k) _ _ (λ i h. prod_of _ _ (hb i) (hg (k - i)))
      ∙ sym (S.conv_sum F k (poly f w b) (poly f w g))
