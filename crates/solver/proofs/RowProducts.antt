-- The coefficients of products of rows, a multiple of a row added place by place, and rows that are cut where they are 0.
use Rattle.std.proofs.Common.{◌≡◌, ℕ, zero, suc, ◌-◌, ◌<◌, ◌≤◌, List, get_or, take, sym, ap, ◌∙◌, arith, length-take, get_or-take, length, set, subst, get_or-set_other, get_or-set_same}
use mathlib.Core.Path.{fun_ext}
use native.Mathlib.Decide.{ℕ_discrete, dec_lt}
use Rattle.std.proofs.lemmas.List.{get_or_past}
use Rattle.algebra.proofs.Convolution as C
use Rattle.field.specs.Meaning.{Meaning, Laws}
use Rattle.field.specs.Symbols.{Within}
use Rattle.field.specs.Sums.{sum_of, coefficient}
use Rattle.field.specs.Lifted.{lift, sym_of}
use Rattle.field.proofs.Lifting.{total_in, zero_of, prod_of, nil_of}
use Rattle.solver.specs.RowSteps.{Mixed}

-- a multiple of a row, place by place
pub mixed_more : (f : Meaning) (c n : ℕ) (xs to ys : List ℕ) (v : ℕ) → Mixed f c n xs to ys → n < length ys → v ≡ f.sum (get_or ys n 0) (f.prod c (get_or xs n 0)) → Mixed f c (suc n) xs to (set ys n v)
mixed_more f c n xs to ys v r h e = record {
  done = λ j w. elim (ℕ_discrete j n) [
    | yes z ↦ subst (λ i. get_or (set ys n v) i 0 ≡ f.sum (get_or to i 0) (f.prod c (get_or xs i 0))) (sym z) (get_or-set_same ys n v 0 h ∙ e ∙ ap (λ t. f.sum t (f.prod c (get_or xs n 0))) (r.rest n (omega arith)))
    | no z ↦ get_or-set_other ys n j v 0 z ∙ r.done j (omega arith)
  ];
  rest = λ j w. get_or-set_other ys n j v 0 (omega arith) ∙ r.rest j (omega arith);
}

-- what is 0 from size on is the same once it is cut there
pub cut_same : (size : ℕ) (b : List ℕ) → ((i : ℕ) → size ≤ i → get_or b i 0 ≡ 0) → (i : ℕ) → get_or (take size b) i 0 ≡ get_or b i 0
cut_same size b z i = elim (dec_lt i size) [
  | yes h ↦ get_or-take size b i 0 h
  | no h ↦ get_or_past (take size b) i 0 (simp length-take (omega arith)) ∙ sym (z i (omega arith))
]

module _ (f : Meaning) (w : Laws f) where
  -- a sum whose terms are 0 from size on
  sum_short : (n size : ℕ) (h : ℕ → ℕ) → ((i : ℕ) → h i < f.q) → ((i : ℕ) → size ≤ i → h i ≡ 0) → size ≤ n → sum_of f size h ≡ sum_of f n h
  sum_short zero size h d z le = let e : size ≡ 0 = omega arith in ap (λ k. sum_of f k h) e
  sum_short (suc n) size h d z le = elim (ℕ_discrete size (suc n)) [
    | yes e ↦ ap (λ k. sum_of f k h) e
    | no e ↦ sum_short n size h d z (omega arith) ∙ sym (w.sum_zero _ (total_in f w n h d)) ∙ ap (f.sum (sum_of f n h)) (sym (z n (omega arith)))
  ]

  pub prod_zero : (x : ℕ) → x < f.q → f.prod x 0 ≡ 0
  prod_zero x h =
      let pos : 0 < f.q = omega (arith, w.q_low) in
      nil_of f w _ (w.prod_in x 0 h pos) (prod_of f w x 0 h pos ∙ ap ((lift f w).◌⊗◌ (sym_of f w x)) (zero_of f w) ∙ C.mul_o (lift f w) (sym_of f w x))

  -- the coefficient of x^k in b · g, where b is 0 from x^size on
  pub coefficient_short : (k size : ℕ) (b g : List ℕ) → Within f.q b → Within f.q g → size ≤ suc k → ((i : ℕ) → size ≤ i → get_or b i 0 ≡ 0) →
      sum_of f size (λ i. f.prod (get_or b i 0) (get_or g (k - i) 0)) ≡ coefficient f k b g
  coefficient_short k size b g hb hg le z =
      sum_short (suc k) size _ (λ i. w.prod_in _ _ (hb i) (hg (k - i)))
      (λ i h. w.prod_comm _ _ (hb i) (hg (k - i)) ∙ ap (f.prod (get_or g (k - i) 0)) (z i h) ∙ prod_zero _ (hg (k - i))) le

  pub coefficient_cut : (k size : ℕ) (b g : List ℕ) → ((i : ℕ) → size ≤ i → get_or b i 0 ≡ 0) → coefficient f k (take size b) g ≡ coefficient f k b g
  coefficient_cut k size b g z = ap (λ (h : ℕ → ℕ). sum_of f (suc k) (λ i. f.prod (h i) (get_or g (k - i) 0))) (fun_ext (cut_same size b z))
