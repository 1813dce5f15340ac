-- Horner's rule at all points at once.
use Rattle.std.proofs.Common.{◌≡◌, ℕ, suc, ◌+◌, ◌-◌, ◌<◌, ◌≤◌, List, [], ◌∷◌, ◌++◌, length, get_or, sym, refl, ap, ◌∙◌, subst, add-zero, append-nil, append_assoc, length-append, arith}
use Rattle.std.proofs.Math.Seq.{get_or-append_seam}
use Rattle.std.proofs.lemmas.List.{length_push}
use Rattle.std.specs.List.{push}
use mathlib.Core.Path.{fun_ext}
use Rattle.algebra.proofs.Roots as R
use Rattle.algebra.proofs.Sums as S
use Rattle.algebra.proofs.Division as D
use Rattle.algebra.proofs.Convolution as C
use Rattle.field.specs.Meaning.{Meaning, Laws, pow}
use Rattle.field.specs.Symbols.{Within}
use Rattle.field.specs.Sums.{sum_of, value, value_at}
use Rattle.field.specs.Rows.{Advanced}
use Rattle.field.specs.Lifted.{lift, poly, sym_of}
use Rattle.field.proofs.Powers as P
use Rattle.field.proofs.Lifting as B
use Rattle.evaluation.specs.Values.{Cleared, Values}

-- each place below the points holds the value of the coefficients from i on, which x^i would come to
pub record Valuing (f : Meaning) (w points old now : List ℕ) (i : ℕ) : Type 0 where
  pub done : (l : Laws f) → Within f.q w → (j : ℕ) → j < length points → j < length old → get_or points j 0 < f.q
      → (get_or now j 0 < f.q) × (sym_of f l (get_or now j 0) ≡ R.ev (lift f l) (length w - i) (λ k. poly f l w (i + k)) (sym_of f l (get_or points j 0)))
  pub rest : (j : ℕ) → length points ≤ j → get_or now j 0 ≡ get_or old j 0

pub valuing_none : (f : Meaning) (w points start : List ℕ) → ((j : ℕ) → j < length points → get_or start j 0 ≡ 0) → Valuing f w points start start (length w)
valuing_none f w points start zeros = record {
  done = λ l _ j a _ _.
      let z : get_or start j 0 ≡ 0 = zeros j a in
      let none : length w - length w ≡ 0 = omega arith in
      (rw z (omega (arith, l.q_low)), B.nil_to f l _ z ∙ sym (ap (λ m. R.ev (lift f l) m (λ k. poly f l w (length w + k)) (sym_of f l (get_or points j 0))) none ∙ D.ev_o (lift f l) _ _));
  rest = λ j h. refl;
}

pub valuing_more : (f : Meaning) (w points old now new : List ℕ) (i : ℕ) → i < length w → length now ≡ length old → Valuing f w points old now (suc i) → Advanced f (get_or w i 0) points now new
    → Valuing f w points old new i
valuing_more f w points old now new i hi ln s a = record {
  done = λ l w_in j p q p_in.
      let F = lift f l in
      let before = s.done l w_in j p q p_in in
      let is = a.done j p (omega arith) (w_in i) p_in before.0 in
      let x = sym_of f l (get_or points j 0) in
      let d = length w - suc i in
      let e : length w - i ≡ suc d = omega arith in
      let prod_in = l.prod_in _ _ before.0 p_in in
      let start : poly f l w i ≡ poly f l w (i + 0) = ap (poly f l w) (sym (add-zero i)) in
      let shift : (k : ℕ) → k < d → poly f l w (suc i + k) ≡ poly f l w (i + suc k) = λ k _. ap (poly f l w) (omega arith) in (
        rw is (l.sum_in _ _ prod_in (w_in i)),
        ap (sym_of f l) is ∙ B.sum_of f l _ _ prod_in (w_in i) ∙ ap (λ u. F.◌⊕◌ u (poly f l w i)) (B.prod_of f l _ _ before.0 p_in ∙ C.mul_comm F _ _ ∙ ap (F.◌⊗◌ x) (before.1 ∙ D.ev_cong F d _ _ x shift))
            ∙ C.add_comm F _ _ ∙ ap (λ u. F.◌⊕◌ u (F.◌⊗◌ x (R.ev F d (λ k. poly f l w (i + suc k)) x))) start
            ∙ sym (ap (λ m. R.ev F m (λ k. poly f l w (i + k)) x) e ∙ D.ev_suc F d (λ k. poly f l w (i + k)) x),
      );
  rest = λ j h. a.rest j h ∙ s.rest j h;
}

-- the rows while the polynomial is read from its end: left is what is still to read, and now holds the value of what was read
abbrev pub Reading : Meaning → List ℕ → List ℕ → List ℕ → List ℕ → List ℕ → Type 0
Reading f w points old now left = ((read : List ℕ) × (w ≡ left ++ read)) × Valuing f w points old now (length left)

pub reading_none : (f : Meaning) (w points start left : List ℕ) → left ≡ w → ((j : ℕ) → j < length points → get_or start j 0 ≡ 0) → Reading f w points start start left
reading_none f w points start left e zeros =
    (([], sym (append-nil left ∙ e)), rw e (valuing_none f w points start zeros))

pub reading_more : (f : Meaning) (w points old now new left after : List ℕ) (x : ℕ) → left ≡ push after x → length now ≡ length old → Reading f w points old now left → Advanced f x points now new
    → Reading f w points old new after
reading_more f w points old now new left after x e ln s a =
    let read = s.0.0 in
    let whole : w ≡ after ++ (x ∷ read) = s.0.1 ∙ ap (λ xs. xs ++ read) e ∙ append_assoc after (x ∷ []) read in
    let here : get_or w (length after) 0 ≡ x = ap (λ xs. get_or xs (length after) 0) whole ∙ get_or-append_seam after x read 0 in
    let size : length left ≡ suc (length after) = omega (arith, ap length e, length_push after x) in
    let within : length after < length w = omega (arith, ap length s.0.1, length-append left read, size) in (
      (x ∷ read, whole),
      valuing_more f w points old now new (length after) within ln (subst (Valuing f w points old now) size s.1) (subst (λ c. Advanced f c points now new) (sym here) a),
    )

module _ (f : Meaning) (l : Laws f) where
  -- the value at x, in the lifted field
  pub value_at_of : (n : ℕ) (w : List ℕ) (x : ℕ) → Within f.q w → x < f.q → sym_of f l (value_at f n w x) ≡ R.ev (lift f l) n (poly f l w) (sym_of f l x)
  value_at_of n w x w_in x_in =
      B.total_of f l n _ (λ i. l.prod_in _ _ (w_in i) (P.pow_in f l x i x_in))
      ∙ S.sum_cong (lift f l) n _ _ (λ i _. B.prod_of f l _ _ (w_in i) (P.pow_in f l x i x_in) ∙ ap ((lift f l).◌⊗◌ (poly f l w i)) (B.pow_of f l x i x_in))
      ∙ sym (D.ev_sum (lift f l) n (poly f l w) (sym_of f l x))

  pub value_at_in : (n : ℕ) (w : List ℕ) (x : ℕ) → Within f.q w → x < f.q → value_at f n w x < f.q
  value_at_in n w x w_in x_in = B.total_in f l n _ (λ i. l.prod_in _ _ (w_in i) (P.pow_in f l x i x_in))

  -- the value at a power of the step element
  pub value_at_power : (n : ℕ) (w : List ℕ) (t : ℕ) → value_at f n w (pow f f.a t) ≡ value f n w t
  value_at_power n w t = ap (sum_of f n) (fun_ext (λ i. ap (f.prod (get_or w i 0)) (sym (B.pow_mul f l f.a i t l.a_high))))

pub valuing_all : (f : Meaning) → Laws f → (w points old start now : List ℕ) → Cleared (length points) old start → length start ≡ length old → Valuing f w points start now 0 → Values f w points old now
valuing_all f l w points old start now cl ls s = record {
  done = λ w_in j p q p_in.
      let at = s.done l w_in j p (omega arith) p_in in
      let n = length w in
      let e : n - 0 ≡ n = omega arith in
      B.same_of f l _ _ at.0 (value_at_in f l n w (get_or points j 0) w_in p_in)
      (at.1 ∙ ap (λ m. R.ev (lift f l) m (λ k. poly f l w (0 + k)) (sym_of f l (get_or points j 0))) e
      ∙ D.ev_cong (lift f l) n _ _ _ (λ k _. ap (poly f l w) (omega arith)) ∙ sym (value_at_of f l n w (get_or points j 0) w_in p_in));
  rest = λ j h. s.rest j h ∙ cl.rest j h;
}
