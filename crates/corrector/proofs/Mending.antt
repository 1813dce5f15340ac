-- The turns of the loops that mend.
use Rattle.std.proofs.Common.{◌≡◌, ℕ, zero, suc, ◌+◌, ◌-◌, ◌*◌, ◌%◌, ◌<◌, ◌≤◌, Bool, true, false, cond, ◌||◌, eqb, ◌≢◌, List, [], ◌∷◌, length, get_or, take, set, fold, sym, refl, ap, ◌∙◌, subst, ap₂, arith, length-set, get_or-set_other, get_or-set_same}
use native.Mathlib.Decide.{ℕ_discrete}
use Rattle.std.proofs.lemmas.List.Sums.{fold_more}
use Rattle.std.proofs.lemmas.List.{take_all}
use Rattle.std.proofs.lemmas.Bool.{eq-eqb, ne_eqb}
use Rattle.field.specs.Meaning.{Meaning, Laws, pow}
use Rattle.field.specs.Symbols.{Within}
use Rattle.field.specs.Sums.{weighed}
use Rattle.field.proofs.Powers.{pow_in, pow_mod}
use Rattle.field.proofs.Lifting.{value_in}
use Rattle.field.proofs.Symbols.{below_from}
use Rattle.code.specs.Shape.{Shape}
use Rattle.errata.specs.Pieces.{apart, spread, among, divisor, mended}
use Rattle.errata.proofs.Lifting.{spread_in}
use Rattle.errata.proofs.Pinning.{no_both}
use Rattle.corrector.specs.MendSteps.{Mended}

-- product is the spread of the first n places
pub record Spreading (f : Meaning) (places : List ℕ) (k n product : ℕ) : Type 0 where
  pub inside : product < f.q
  pub is : product ≡ spread f (take n places) k

module _ (f : Meaning) (l : Laws f) (places : List ℕ) (k n product : ℕ) (h : n < length places) (s : Spreading f places k n product) where
  abbrev step : ℕ → ℕ → ℕ
  step x i = cond (eqb i k) x (f.prod x (apart f k i))

  more : spread f (take (n + 1) places) k ≡ step (spread f (take n places) k) (get_or places n 0)
  more = fold_more step 1 places n 0 h

  pub spreading_on : (M power opp gap new : ℕ) → f.m ≡ M → get_or places n 0 ≢ k
      → power ≡ pow f f.a ((get_or places n 0 + (M - k)) % M) → (power < f.q → opp ≡ f.opp power)
      → (1 < f.q → opp < f.q → gap ≡ f.sum 1 opp) → (product < f.q → gap < f.q → new ≡ f.prod product gap) → Spreading f places k (n + 1) new
  spreading_on M power opp gap new turn ne e eo eg en =
      let In : ℕ → Type 0 = λ x. x < f.q in
      let at = get_or places n 0 in
      let before = spread f (take n places) k in
      let power_is : power ≡ pow f f.a (at + (f.m - k)) = e ∙ ap (λ (m : ℕ). pow f f.a ((at + (m - k)) % m)) (sym turn) ∙ pow_mod f l (at + (f.m - k)) in
      let power_in : power < f.q = subst In (sym power_is) (pow_in f l f.a (at + (f.m - k)) l.a_high) in
      let opp_is = eo power_in in
      let opp_in : opp < f.q = subst In (sym opp_is) (l.opp_in _ power_in) in
      let gap_is = eg l.q_low opp_in in
      let gap_in : gap < f.q = subst In (sym gap_is) (l.sum_in _ _ l.q_low opp_in) in
      let NewIs = en s.inside gap_in in
      record {
        inside = subst In (sym NewIs) (l.prod_in _ _ s.inside gap_in);
        is = NewIs ∙ ap₂ f.prod s.is (gap_is ∙ ap (f.sum 1) (opp_is ∙ ap f.opp power_is))
            ∙ sym (more ∙ ap (λ (b : Bool). cond b before (f.prod before (apart f k at))) (ne_eqb at k ne));
      }

  pub spreading_off : get_or places n 0 ≡ k → Spreading f places k (n + 1) product
  spreading_off e =
      let before = spread f (take n places) k in
      record {
        inside = s.inside;
        is = s.is ∙ sym (more ∙ ap (λ (b : Bool). cond b before (f.prod before (apart f k (get_or places n 0)))) (eq-eqb (get_or places n 0) k e));
      }

pub spreading_all : (f : Meaning) (places : List ℕ) (k n product : ℕ) → length places ≤ n → Spreading f places k n product → product ≡ spread f places k
spreading_all f places k n product h s = s.is ∙ ap (λ xs. spread f xs k) (take_all n places h)

module _ (f : Meaning) (l : Laws f) (c : Shape) (B places : List ℕ) (k : ℕ) where
  pub divisor_is : (M b low turn inner wide d : ℕ) → f.m ≡ M → b ≡ c.first → get_or B 0 0 < f.q → low ≡ get_or B 0 0 → turn ≡ pow f f.a (k * b % M) → (low < f.q → turn < f.q → inner ≡ f.prod low turn)
      → wide ≡ spread f places k → (inner < f.q → wide < f.q → d ≡ f.prod inner wide) → (d < f.q) × (d ≡ divisor f c B places k)
  divisor_is M b low turn inner wide d em eb b_in el e ei es ed =
      let In : ℕ → Type 0 = λ x. x < f.q in
      let low_in : low < f.q = subst In (sym el) b_in in
      let turn_is : turn ≡ pow f f.a (k * c.first) = e ∙ ap₂ (λ (x m : ℕ). pow f f.a (k * x % m)) eb (sym em) ∙ pow_mod f l (k * c.first) in
      let turn_in : turn < f.q = subst In (sym turn_is) (pow_in f l f.a (k * c.first) l.a_high) in
      let inner_is = ei low_in turn_in in
      let inner_in : inner < f.q = subst In (sym inner_is) (l.prod_in _ _ low_in turn_in) in
      let wide_in : wide < f.q = subst In (sym es) (spread_in f l places k) in
      let d_is = ed inner_in wide_in in
      (subst In (sym d_is) (l.prod_in _ _ inner_in wide_in), d_is ∙ ap₂ f.prod (inner_is ∙ ap₂ f.prod el turn_is) es)

  pub mended_is : (A w : List ℕ) (d t value amount opp new : ℕ) → Within f.q A → get_or w k 0 < f.q → (d < f.q) × (d ≡ divisor f c B places k) → d ≢ 0 → t ≡ f.recip d
      → value ≡ weighed f A (f.m - k) → (value < f.q → t < f.q → amount ≡ f.prod value t) → (amount < f.q → opp ≡ f.opp amount) → (opp < f.q → new ≡ f.sum (get_or w k 0) opp)
      → (new < f.q) × (new ≡ mended f c A B places w k)
  mended_is A w d t value amount opp new a_in w_in dd ne et ev ea eo en =
      let In : ℕ → Type 0 = λ x. x < f.q in
      let t_in : t < f.q = subst In (sym et) (l.recip_in d dd.0 ne) in
      let v_in : value < f.q = subst In (sym ev) (value_in f l (length A) A (f.m - k) a_in) in
      let a_is = ea v_in t_in in
      let am_in : amount < f.q = subst In (sym a_is) (l.prod_in _ _ v_in t_in) in
      let o_is = eo am_in in
      let o_in : opp < f.q = subst In (sym o_is) (l.opp_in _ am_in) in
      let n_is = en o_in in
      (subst In (sym n_is) (l.sum_in _ _ w_in o_in), n_is ∙ ap (f.sum (get_or w k 0)) (o_is ∙ ap f.opp (a_is ∙ ap₂ f.prod ev (et ∙ ap f.recip dd.1))))

-- u is w with the symbols at the first n places mended
pub record Mending (f : Meaning) (c : Shape) (A B places w : List ℕ) (n : ℕ) (u : List ℕ) : Type 0 where
  pub long : length u ≡ c.n
  pub inside : Within f.q u
  pub is : (i : ℕ) → i < c.n → get_or u i 0 ≡ cond (among (take n places) i) (mended f c A B places w i) (get_or w i 0)

or_true : (b : Bool) → (b || true) ≡ true
or_true true = refl
or_true false = refl

or_false : (b : Bool) → (b || false) ≡ b
or_false true = refl
or_false false = refl

pub mending_none : (f : Meaning) (c : Shape) (A B places w : List ℕ) → length w ≡ c.n → Within f.q w → Mending f c A B places w 0 w
mending_none f c A B places w e h = record { long = e; inside = h; is = λ i _. refl }

module _ (f : Meaning) (c : Shape) (A B places w : List ℕ) (n : ℕ) (u : List ℕ) (m : Mending f c A B places w n u) where
  module _ (x : ℕ) (h : n < length places) (k-in : get_or places n 0 < c.n) where
    abbrev k : ℕ
    k = get_or places n 0

    there : get_or places n 0 < length u
    there = let e = m.long in omega arith

    one_more : (i : ℕ) → among (take (n + 1) places) i ≡ (among (take n places) i || eqb (get_or places n 0) i)
    one_more i = fold_more (λ (b : Bool) (l : ℕ). b || eqb l i) false places n 0 h

    abbrev at : Bool → ℕ → ℕ
    at b i = cond b (mended f c A B places w i) (get_or w i 0)

    pub mending_more : x < f.q → x ≡ mended f c A B places w (get_or places n 0) → Mending f c A B places w (n + 1) (set u (get_or places n 0) x)
    mending_more x_in e = record {
      long = length-set u k x ∙ m.long;
      inside = λ i. elim (ℕ_discrete i k) [
        | yes z ↦ subst (λ j. get_or (set u k x) j 0 < f.q) (sym z) (rw (get_or-set_same u k x 0 there) x_in)
        | no z ↦ rw (get_or-set_other u k i x 0 z) (m.inside i)
      ];
      is = λ i d. elim (ℕ_discrete i k) [
        | yes z ↦ subst (λ j. get_or (set u k x) j 0 ≡ at (among (take (n + 1) places) j) j) (sym z)
            (get_or-set_same u k x 0 there ∙ e ∙ sym (ap (λ b. at b k) (one_more k ∙ ap (λ b. among (take n places) k || b) (eq-eqb k k refl) ∙ or_true _)))
        | no z ↦ get_or-set_other u k i x 0 z ∙ m.is i d
            ∙ sym (ap (λ b. at b i) (one_more i ∙ ap (λ b. among (take n places) i || b) (ne_eqb k i (λ o. z (sym o))) ∙ or_false _))
      ];
    }

  pub mending_all : length places ≤ n → Mended f c A B places w true u
  mending_all h = record {
    tried = λ _. record {
      symbols = λ i d. m.is i d ∙ ap (λ (xs : List ℕ). cond (among xs i) (mended f c A B places w i) (get_or w i 0)) (take_all n places h);
      word = record { long = m.long; symbols = below_from f.q u (λ i _. m.inside i) };
    };
    stuck = λ z. absurd (no_both true refl z);
  }

-- a place is among the places
among_at : (b : Bool) (places : List ℕ) (n : ℕ) → n < length places → fold (λ (b : Bool) (l : ℕ). b || eqb l (get_or places n 0)) b places ≡ true
among_at b [] n h = absurd (omega arith)
among_at b (x ∷ places) zero h = ap (λ d. fold (λ (b : Bool) (l : ℕ). b || eqb l x) d places) (ap (λ d. b || d) (eq-eqb x x refl) ∙ or_true b) ∙ stays places
  where
    stays : (ys : List ℕ) → fold (λ (b : Bool) (l : ℕ). b || eqb l x) true ys ≡ true
    stays [] = refl
    stays (y ∷ ys) = stays ys
among_at b (x ∷ places) (suc n) h = among_at (b || eqb x (get_or places n 0)) places n (omega arith)

pub mending_stuck : (f : Meaning) (c : Shape) (A B places w u : List ℕ) (n : ℕ) → n < length places → get_or places n 0 < c.n → divisor f c B places (get_or places n 0) ≡ 0 → Mended f c A B places w false u
mending_stuck f c A B places w u n h k z = record { tried = λ e. absurd (no_both false e refl); stuck = λ _. (get_or places n 0, k, among_at false places n h, z) }
