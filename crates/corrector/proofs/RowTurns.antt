-- The turns of the loops over the syndromes.
use Rattle.std.proofs.Common.{◌≡◌, ℕ, zero, suc, ◌+◌, ◌<◌, ◌≤◌, Bool, true, false, cond, List, length, get_or, set, sym, ap, ◌∙◌, subst, ap₂, inl, inr, arith, length-set, get_or-set_other, get_or-set_same, refl}
use native.Mathlib.Decide.{ℕ_discrete}
use Rattle.std.proofs.lemmas.List.{get_or_past}
use Rattle.std.proofs.lemmas.Bool.{cases_lt}
use Rattle.field.specs.Meaning.{Meaning, Laws, pow}
use Rattle.field.specs.Symbols.{Within}
use Rattle.field.proofs.Powers as P
use Rattle.code.specs.Shape.{Shape}
use Rattle.code.specs.Words.{check_sum}
use Rattle.errata.specs.Pieces.{less, modified}
use Rattle.corrector.specs.RowSteps.{Multiplied, Modified}

-- one syndrome more
pub syndrome_more : (f : Meaning) (c : Shape) (w S : List ℕ) (n x : ℕ) → n < length S → ((j : ℕ) → j < n → get_or S j 0 ≡ check_sum f c w j) → x ≡ check_sum f c w n
    → (j : ℕ) → j < n + 1 → get_or (set S n x) j 0 ≡ check_sum f c w j
syndrome_more f c w S n x h done e j k = elim (ℕ_discrete j n) [
  | yes z ↦ subst (λ i. get_or (set S n x) i 0 ≡ check_sum f c w i) (sym z) (get_or-set_same S n x 0 h ∙ e)
  | no z ↦ get_or-set_other S n j x 0 z ∙ done j (omega arith)
]

less_cong : (f : Meaning) (x : ℕ) (h h' : ℕ → ℕ) (j : ℕ) → ((i : ℕ) → i ≤ j → h i ≡ h' i) → less f x h j ≡ less f x h' j
less_cong f x h h' zero e = e 0 (omega arith)
less_cong f x h h' (suc j) e = ap₂ (λ a b. f.sum a (f.opp (f.prod x b))) (e (suc j) (omega arith)) (e j (omega arith))

-- modified syndromes up to x^j come from syndromes up to x^j
pub modified_cong : (f : Meaning) (p : ℕ → Bool) (h h' : ℕ → ℕ) (n j : ℕ) → ((i : ℕ) → i ≤ j → h i ≡ h' i) → modified f p h n j ≡ modified f p h' n j
modified_cong f p h h' zero j e = e j (omega arith)
modified_cong f p h h' (suc n) j e =
    ap₂ (λ (x y : ℕ). cond (p n) x y) (less_cong f (pow f f.a n) _ _ j (λ i k. modified_cong f p h h' n i (λ t d. e t (omega arith)))) (modified_cong f p h h' n j e)

module _ (f : Meaning) (erased : List Bool) (n : ℕ) (xs ys : List ℕ) (t : Modified f erased n xs ys) where
  abbrev before : ℕ → ℕ
  before = modified f (λ i. get_or erased i false) (λ i. get_or xs i 0) n

  abbrev after : Bool → ℕ → ℕ
  after b j = cond b (less f (pow f f.a n) before j) (before j)

  pub modified_on : (zs : List ℕ) → Multiplied f (pow f f.a n) ys zs → get_or erased n false ≡ true → Modified f erased (suc n) xs zs
  modified_on zs s e = record {
    long = s.long ∙ t.long;
    is = λ j h. s.is j (let l = t.long in omega arith) ∙ less_cong f _ _ _ j (λ i w. t.is i (omega arith)) ∙ sym (ap (λ (b : Bool). after b j) e);
  }

  pub modified_off : get_or erased n false ≡ false → Modified f erased (suc n) xs ys
  modified_off e = record { long = t.long; is = λ j h. t.is j h ∙ sym (ap (λ (b : Bool). after b j) e) }

module _ (f : Meaning) (l : Laws f) where
  less_in : (x : ℕ) (h : ℕ → ℕ) (j : ℕ) → x < f.q → ((i : ℕ) → h i < f.q) → less f x h j < f.q
  less_in x h zero hx d = d 0
  less_in x h (suc j) hx d = l.sum_in _ _ (d (suc j)) (l.opp_in _ (l.prod_in _ _ hx (d j)))

  pub multiplied_in : (x : ℕ) (xs ys : List ℕ) → x < f.q → Within f.q xs → Multiplied f x xs ys → Within f.q ys
  multiplied_in x xs ys hx d s j = elim (cases_lt j (length xs)) [
    | inl h ↦ rw (s.is j h) (less_in x (λ i. get_or xs i 0) j hx d)
    | inr h ↦ rw (get_or_past ys j 0 (let e = s.long in omega arith)) (omega (arith, l.q_low))
  ]

-- the coefficient below the n-th, 0 below the first
abbrev pub prior : List ℕ → ℕ → ℕ
prior xs zero = 0
prior xs (suc n) = get_or xs n 0

-- multiplied below n, and what stood just below n
pub record Multiplying (f : Meaning) (x n below : ℕ) (xs ys : List ℕ) : Type 0 where
  pub long : length ys ≡ length xs
  pub done : (j : ℕ) → j < n → get_or ys j 0 ≡ less f x (λ i. get_or xs i 0) j
  pub rest : (j : ℕ) → n ≤ j → get_or ys j 0 ≡ get_or xs j 0
  pub carried : below ≡ prior xs n

pub multiplying_none : (f : Meaning) (x : ℕ) (xs : List ℕ) → Multiplying f x 0 0 xs xs
multiplying_none f x xs = record { long = refl; done = λ j h. absurd (omega arith); rest = λ j h. refl; carried = refl }

pub multiplied_all : (f : Meaning) (x n below : ℕ) (xs ys : List ℕ) → length xs ≤ n → Multiplying f x n below xs ys → Multiplied f x xs ys
multiplied_all f x n below xs ys h m = record { long = m.long; is = λ j k. m.done j (omega arith) }

module _ (f : Meaning) (l : Laws f) (x : ℕ) (hx : x < f.q) (xs : List ℕ) (inside : Within f.q xs) where
  prior_in : (n : ℕ) → prior xs n < f.q
  prior_in zero = P.zero_in f l
  prior_in (suc n) = inside n

  -- below the first coefficient there is nothing to take off
  less_by : (n : ℕ) → f.sum (get_or xs n 0) (f.opp (f.prod x (prior xs n))) ≡ less f x (λ i. get_or xs i 0) n
  less_by zero =
      let none : f.prod x 0 ≡ 0 = l.prod_comm x 0 hx (P.zero_in f l) ∙ P.zero_prod f l x hx in
      let opp_in = l.opp_in 0 (P.zero_in f l) in
      let opp_none : f.opp 0 ≡ 0 = sym (l.sum_zero (f.opp 0) opp_in) ∙ l.sum_comm (f.opp 0) 0 opp_in (P.zero_in f l) ∙ l.sum_opp 0 (P.zero_in f l) in
      ap (λ (z : ℕ). f.sum (get_or xs 0 0) (f.opp z)) none ∙ ap (f.sum (get_or xs 0 0)) opp_none ∙ l.sum_zero _ (inside 0)
  less_by (suc n) = refl

  pub multiplying_more : (n below here product opp sum : ℕ) (ys : List ℕ) → n < length xs → Multiplying f x n below xs ys → here ≡ get_or ys n 0
      → (x < f.q → below < f.q → product ≡ f.prod x below) → (product < f.q → opp ≡ f.opp product) → (here < f.q → opp < f.q → sum ≡ f.sum here opp)
      → Multiplying f x (suc n) here xs (set ys n sum)
  multiplying_more n below here product opp sum ys h m is product-by opp_by sum_by =
      let In : ℕ → Type 0 = λ z. z < f.q in
      let here_is : here ≡ get_or xs n 0 = is ∙ m.rest n (omega arith) in
      let here_in : here < f.q = subst In (sym here_is) (inside n) in
      let below_in : below < f.q = subst In (sym m.carried) (prior_in n) in
      let product_is = product-by hx below_in in
      let product_in : product < f.q = subst In (sym product_is) (l.prod_in _ _ hx below_in) in
      let opp_is = opp_by product_in in
      let opp_in : opp < f.q = subst In (sym opp_is) (l.opp_in _ product_in) in
      let sum_is : sum ≡ less f x (λ i. get_or xs i 0) n =
      sum_by here_in opp_in ∙ ap₂ f.sum here_is (opp_is ∙ ap f.opp (product_is ∙ ap (f.prod x) m.carried)) ∙ less_by n in
      record {
        long = length-set ys n sum ∙ m.long;
        done = λ j k. elim (ℕ_discrete j n) [
          | yes z ↦ subst (λ i. get_or (set ys n sum) i 0 ≡ less f x (λ i. get_or xs i 0) i) (sym z) (get_or-set_same ys n sum 0 (let e = m.long in omega arith) ∙ sum_is)
          | no z ↦ get_or-set_other ys n j sum 0 z ∙ m.done j (omega arith)
        ];
        rest = λ j k. get_or-set_other ys n j sum 0 (λ z. absurd (omega arith)) ∙ m.rest j (omega arith);
        carried = here_is;
      }
