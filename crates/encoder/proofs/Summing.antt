-- What a remainder says of a word: its values at the roots are the word's check sums.
use Rattle.std.proofs.Common.{◌≡◌, ℕ, zero, suc, ◌+◌, ◌*◌, ◌<◌, ◌≤◌, true, ◌&&◌, eqb, ltb, List, length, get_or, take, sym, refl, ap, ◌∙◌, ap₂, add-one, mul-one, arith, get_or-take, le-ltb}
use Rattle.std.proofs.lemmas.List.{get_or_past, take_all}
use Rattle.std.proofs.lemmas.List.Folds.{list_all_more}
use Rattle.std.proofs.lemmas.Bool.{ne_eqb}
use Rattle.algebra.proofs.Division as D
use Rattle.field.specs.Meaning.{Meaning, Laws, pow}
use Rattle.field.specs.Symbols.{Within, all_below}
use Rattle.field.proofs.Symbols.{within_from}
use Rattle.field.specs.Sums.{sum_of, value}
use Rattle.field.specs.Lifted.{lift, poly}
use Rattle.field.proofs.Parts.{cut}
use Rattle.field.proofs.Powers as P
use Rattle.field.proofs.Lifting as B
use Rattle.evaluation.specs.Values.{Powers, Values}
use Rattle.evaluation.proofs.Valuing.{value_at_power}
use Rattle.code.specs.Shape.{Shape}
use Rattle.code.specs.Words.{every, check_sum, codeword}
use Rattle.code.proofs.Decided.{is_codeword}
use Rattle.encoder.specs.Syndromes.{Summed}
use Rattle.encoder.specs.Register.{Divided, Evaluated}

-- all numbers are 0
pub all_zero : (row : List ℕ) → all_below 1 row ≡ true → (i : ℕ) → get_or row i 0 ≡ 0
all_zero row e i = let h = within_from 1 row (omega arith) e i in omega arith

-- 0 is the only number below 1
below_one : (x : ℕ) → ltb x 1 ≡ eqb x 0
below_one zero = refl
below_one (suc x) = le-ltb (suc x) 1 (omega arith) ∙ sym (ne_eqb (suc x) 0 (λ e. omega arith))

-- testing the numbers of a row is testing what they are
pub zero_test : (n : ℕ) (row : List ℕ) (h : ℕ → ℕ) → n ≤ length row → ((j : ℕ) → j < n → get_or row j 0 ≡ h j) → all_below 1 (take n row) ≡ every n (λ j. eqb (h j) 0)
zero_test zero row h long is = refl
zero_test (suc n) row h long is =
    ap (λ m. all_below 1 (take m row)) (sym (add-one n)) ∙ list_all_more (λ x. ltb x 1) row n 0 (omega arith)
    ∙ ap₂ ◌&&◌ (zero_test n row h (omega arith) (λ j k. is j (omega arith))) (ap (λ x. ltb x 1) (is n (omega arith)) ∙ below_one (h n))

module _ (f : Meaning) (l : Laws f) where
  -- values at the row of roots
  pub evaluated : (b : ℕ) (w points old new : List ℕ) → Within f.q w → length points ≡ length old → length new ≡ length old → Powers f b 1 points → Values f w points old new → Evaluated f b w new
  evaluated b w points old new w_in lp ln ps vs j h =
      let at : get_or points j 0 ≡ pow f f.a (b + j) = ps j (omega arith) ∙ ap (λ (n : ℕ). pow f f.a (b + n)) (mul-one j) in
      let p_in : get_or points j 0 < f.q = rw at (P.pow_in f l f.a (b + j) l.a_high) in
      vs.done w_in j (omega arith) (omega arith) p_in ∙ ap (λ (x : ℕ). sum_of f (length w) (λ i. f.prod (get_or w i 0) (pow f x i))) at ∙ value_at_power f l (length w) w (b + j)

  -- a row is as good as its first places
  value_cong : (n : ℕ) (v w : List ℕ) (t : ℕ) → ((i : ℕ) → i < n → get_or v i 0 ≡ get_or w i 0) → value f n v t ≡ value f n w t
  value_cong zero v w t e = refl
  value_cong (suc n) v w t e = ap₂ f.sum (value_cong n v w t (λ i h. e i (omega arith))) (ap (λ (x : ℕ). f.prod x (pow f f.a (n * t))) (e n (omega arith)))

  value_zero : (n : ℕ) (w : List ℕ) (t : ℕ) → Within f.q w → ((i : ℕ) → i < n → get_or w i 0 ≡ 0) → value f n w t ≡ 0
  value_zero n w t w_in e = B.nil_of f l _ (B.value_in f l n w t w_in) (B.value_of f l n w t w_in ∙ D.ev_zero (lift f l) n (poly f l w) _ (λ i h. B.nil_to f l _ (e i h)))

  -- a remainder of zeros
  pub zero_values : (b : ℕ) (w new : List ℕ) → all_below 1 w ≡ true → ((j : ℕ) → get_or new j 0 ≡ 0) → Evaluated f b w new
  zero_values b w new e zeros j h = zeros j ∙ sym (value_zero (length w) w (b + j) (λ i. rw (all_zero w e i) (omega (arith, l.q_low))) (λ i _. all_zero w e i))

  -- what the values of a remainder at the roots say of the word
  module _ (c : Shape) (w row : List ℕ) (k : ℕ) (d : Divided f c.first c.checks w row) (is : k ≡ c.checks) (long : c.checks ≤ length row)
      (old new : List ℕ) (lo : length old ≡ c.checks) (ln : length new ≡ c.checks) (vs : Evaluated f c.first (take k row) new) where
    part_long : c.checks ≡ length (take k row)
    part_long = sym (cut k row (omega arith) ∙ is)

    at : (j : ℕ) → j < c.checks → get_or new j 0 ≡ check_sum f c w j
    at j h =
        vs j (omega arith) ∙ ap (λ n. value f n (take k row) (c.first + j)) (sym part_long)
        ∙ value_cong c.checks (take k row) row (c.first + j) (λ i y. get_or-take k row i 0 (omega arith)) ∙ sym (d.values j h)

    pub values_pass : all_below 1 new ≡ codeword f c w
    values_pass = ap (all_below 1) (sym (take_all c.checks new (omega arith))) ∙ zero_test c.checks new (check_sum f c w) (omega arith) at

    pub values_sums : Summed f c w old new
    values_sums = record { done = at; rest = λ j h. get_or_past new j 0 (omega arith) ∙ sym (get_or_past old j 0 (omega arith)) }

    pub zeros_pass : ((j : ℕ) → get_or new j 0 ≡ 0) → true ≡ codeword f c w
    zeros_pass zeros = sym (is_codeword f c w (λ j h. sym (at j h) ∙ zeros j))
