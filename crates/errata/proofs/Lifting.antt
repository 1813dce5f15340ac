-- Nodes, products and modified syndromes, as polynomials of the algebra over the field that a meaning stands for.
use Rattle.std.proofs.Common.{◌≡◌, ℕ, zero, suc, ◌+◌, ◌-◌, ◌*◌, ◌<◌, ◌≤◌, Bool, true, false, cond, not, ◌&&◌, ◌||◌, eqb, List, [], ◌∷◌, ◌++◌, length, fold, sym, refl, ap, ◌∙◌, ap₂, arith}
use mathlib.Core.Path.{fun_ext}
use Prim.Native.Nat.{Fin}
use native.Mathlib.Decide.{ℕ_discrete}
use Rattle.std.proofs.lemmas.List.Sums.{fold_push}
use Rattle.std.proofs.lemmas.Bool.{eq-eqb, ne_eqb}
use Rattle.field.specs.Meaning.{Meaning, Laws, pow}
use Rattle.field.specs.Symbols.{Within}
use Rattle.field.specs.Sums.{weighed}
use Rattle.field.specs.Lifted.{lift, poly, sym_of}
use Rattle.field.proofs.Powers as P
use Rattle.algebra.specs.Field.{Field}
use Rattle.algebra.proofs.Convolution as C
use Rattle.algebra.proofs.Sums as S
use Rattle.algebra.proofs.Roots as R
use Rattle.algebra.proofs.KeyEquation as Q
use Rattle.algebra.proofs.Values as W
use Rattle.algebra.proofs.Distance as D
use Rattle.algebra.proofs.LastIndex as L
use Rattle.algebra.proofs.RingSolver as V
use Rattle.algebra.proofs.RingSolver.{◌:+◌, ◌:−◌, ◌:*◌, ◌:=◌, nil, one, mns, v0, v1}
use Rattle.code.specs.Words.{count}
use Rattle.field.proofs.Lifting as Br
use Rattle.errata.specs.Pieces.{less, modified, passing, among, apart, spread}

-- the numbers below n that pass, and a fold over them
pub folded_passing : {X : Type 0} (h : X → ℕ → X) (x : X) (p : ℕ → Bool) (n : ℕ) → fold h x (passing (suc n) p) ≡ cond (p n) (h (fold h x (passing n p)) n) (fold h x (passing n p))
folded_passing h x p n = go (p n)
  where
    go : (b : Bool) → fold h x (cond b (passing n p ++ (n ∷ [])) (passing n p)) ≡ cond b (h (fold h x (passing n p)) n) (fold h x (passing n p))
    go true = fold_push h x (passing n p) n
    go false = refl

-- a number is among those that pass where it passes
pub among_passing : (p : ℕ → Bool) (n k : ℕ) → k < n → among (passing n p) k ≡ p k
among_passing p zero k h = absurd (omega arith)
among_passing p (suc n) k h =
    folded_passing (λ (b : Bool) (l : ℕ). b || eqb l k) false p n ∙ elim (ℕ_discrete k n) [
      | yes e ↦ ap₂ (λ (a d : Bool). cond (p n) (a || d) a) (none n k (omega arith)) (eq-eqb n k (sym e)) ∙ last (p n) ∙ ap p (sym e)
      | no e ↦ ap₂ (λ (a d : Bool). cond (p n) (a || d) a) (among_passing p n k (omega arith)) (ne_eqb n k (λ z. e (sym z))) ∙ same (p n) (p k)
    ]
  where
    none : (n k : ℕ) → n ≤ k → among (passing n p) k ≡ false
    none zero k h = refl
    none (suc n) k h =
        folded_passing (λ (b : Bool) (l : ℕ). b || eqb l k) false p n
        ∙ ap₂ (λ (a d : Bool). cond (p n) (a || d) a) (none n k (omega arith)) (ne_eqb n k (omega arith)) ∙ both (p n)
      where
        both : (b : Bool) → cond b false false ≡ false
        both true = refl
        both false = refl

    last : (b : Bool) → cond b true false ≡ b
    last true = refl
    last false = refl

    same : (b d : Bool) → cond b (d || false) d ≡ d
    same true true = refl
    same true false = refl
    same false d = refl

module _ (f : Meaning) (l : Laws f) where
  abbrev F : Field (Fin f.q)
  F = lift f l

  abbrev s : ℕ → Fin f.q
  s = sym_of f l

  abbrev K : Type 0
  K = Fin f.q

  pub q_pos : 0 < f.q
  q_pos = omega (arith, l.q_low)

  one_in : 1 < f.q
  one_in = l.q_low

  -- the node of a position
  abbrev pub at : ℕ → Fin f.q
  at = Br.root f l

  abbrev pub node : (ℕ → Bool) → ℕ → Fin f.q
  node p i = cond (p i) (sym_of f l (pow f f.a i)) (lift f l).𝟘

  at_is : (i : ℕ) → at i ≡ R.pow F (s f.a) i
  at_is i = Br.pow_of f l f.a i l.a_high

  pub at_in : (i : ℕ) → pow f f.a i < f.q
  at_in i = P.pow_in f l f.a i l.a_high

  pub at_add : (i j : ℕ) → at (i + j) ≡ F.◌⊗◌ (at i) (at j)
  at_add i j = at_is (i + j) ∙ L.pow_add F _ i j ∙ sym (ap₂ F.◌⊗◌ (at_is i) (at_is j))

  pub at_mul : (i t : ℕ) → at (i * t) ≡ R.pow F (at i) t
  at_mul i t = at_is (i * t) ∙ L.pow_mul F _ i t ∙ ap (λ x. R.pow F x t) (sym (at_is i))

  pub at_unit : (i : ℕ) → i ≤ f.m → F.◌⊗◌ (at i) (at (f.m - i)) ≡ F.𝟙
  at_unit i h = sym (at_add i (f.m - i)) ∙ ap at (omega arith) ∙ ap s l.pow_round ∙ Br.one_of f l

  pub at_ne : (i : ℕ) → i < f.m → ¬ (at i ≡ F.𝟘)
  at_ne i h e = l.pow_nonzero i h (Br.nil_of f l _ (at_in i) e)

  pub at_apart : (i j : ℕ) → i < f.m → j < f.m → ¬ (i ≡ j) → ¬ (at i ≡ at j)
  at_apart i j hi hj ne e = l.pow_apart i j hi hj ne (Br.same_of f l _ _ (at_in i) (at_in j) e)

  -- the value of a row at a^t, by positions
  pub weighed_at : (w : List ℕ) → Within f.q w → (t : ℕ) → s (weighed f w t) ≡ S.sum F (length w) (λ i. F.◌⊗◌ (poly f l w i) (R.pow F (at i) t))
  weighed_at w hw t =
      Br.total_of f l (length w) _ (λ i. l.prod_in _ _ (hw i) (at_in (i * t)))
      ∙ S.sum_cong F (length w) _ _ (λ i h. Br.prod_of f l _ _ (hw i) (at_in (i * t)) ∙ ap (F.◌⊗◌ (poly f l w i)) (at_mul i t))

  module _ (p : ℕ → Bool) where
    less_in : (x : ℕ) (h : ℕ → ℕ) → x < f.q → ((j : ℕ) → h j < f.q) → (j : ℕ) → less f x h j < f.q
    less_in x h hx d zero = d 0
    less_in x h hx d (suc j) = l.sum_in _ _ (d (suc j)) (l.opp_in _ (l.prod_in _ _ hx (d j)))

    less_of : (x : ℕ) (h : ℕ → ℕ) → x < f.q → ((j : ℕ) → h j < f.q) → (j : ℕ) → s (less f x h j) ≡ Q.lin F (s x) (λ i. s (h i)) j
    less_of x h hx d zero = V.solve F (s x ∷ s (h 0) ∷ []) (v1 := v1 :+ mns v0 :* nil) refl
    less_of x h hx d (suc j) =
        Br.sum_of f l _ _ (d (suc j)) (l.opp_in _ (l.prod_in _ _ hx (d j)))
        ∙ ap (F.◌⊕◌ (s (h (suc j)))) (Br.opp_of f l _ (l.prod_in _ _ hx (d j)) ∙ ap F.neg (Br.prod_of f l _ _ hx (d j)) ∙ V.solve2 F (λ x y. mns (x :* y) := mns x :* y) refl (s x) (s (h j)))

    module _ (h : ℕ → ℕ) (d : (j : ℕ) → h j < f.q) where
      pub modified_in : (n j : ℕ) → modified f p h n j < f.q
      modified_in zero j = d j
      modified_in (suc n) j = go (p n) (less_in (pow f f.a n) (modified f p h n) (at_in n) (modified_in n) j) (modified_in n j)
        where
          go : (b : Bool) → less f (pow f f.a n) (modified f p h n) j < f.q → modified f p h n j < f.q → cond b (less f (pow f f.a n) (modified f p h n) j) (modified f p h n j) < f.q
          go true x y = x
          go false x y = y

      one_more : (n j : ℕ) (b : Bool) → s (cond b (less f (pow f f.a n) (modified f p h n) j) (modified f p h n j)) ≡ Q.lin F (cond b (at n) F.𝟘) (λ i. s (modified f p h n i)) j
      one_more n j true = less_of (pow f f.a n) (modified f p h n) (at_in n) (modified_in n) j
      one_more n zero false = V.solve F (s (modified f p h n 0) ∷ []) (v0 := v0 :+ mns nil :* nil) refl
      one_more n (suc j) false = V.solve2 F (λ x y. x := x :+ mns nil :* y) refl (s (modified f p h n (suc j))) (s (modified f p h n j))

      pub modified_of : (n j : ℕ) → s (modified f p h n j) ≡ C.conv F j (Q.loc F n (node p)) (λ i. s (h i))
      modified_of zero j = sym (ap (λ t. C.conv F j t (λ i. s (h i))) (fun_ext (L.loc_none F (node p))) ∙ Q.conv_unit F j (λ i. s (h i)))
      modified_of (suc n) j =
          one_more n j (p n)
          ∙ Q.lin_cong F (node p n) _ _ (λ i. modified_of n i) j
          ∙ sym (Q.conv_lin F j (node p n) (Q.loc F n (node p)) (λ i. s (h i)))
          ∙ ap (λ t. C.conv F j t (λ i. s (h i))) (sym (fun_ext (L.loc_last F n (node p))))

    one_node : (n : ℕ) → n < f.m → (b : Bool) (t : Dec (◌≡◌ {A = Fin f.q} (cond b (at n) F.𝟘) F.𝟘)) → D.count F t ≡ cond b 1 0
    one_node n h true (yes e) = absurd (at_ne n h e)
    one_node n h true (no e) = refl
    one_node n h false (yes e) = refl
    one_node n h false (no e) = absurd (e refl)

    pub wt_node : (n : ℕ) → n ≤ f.m → D.wt F n (node p) ≡ count n p
    unfolding D.wt
    wt_node zero h = refl
    wt_node (suc n) h = L.wt_last F n (node p) ∙ ap₂ ◌+◌ (wt_node n (omega arith)) (one_node n (omega arith) (p n) (F.eq? (node p n) F.𝟘))

  pub apart_in : (k i : ℕ) → apart f k i < f.q
  apart_in k i = l.sum_in _ _ one_in (l.opp_in _ (at_in (i + (f.m - k))))

  pub apart_of : (k i : ℕ) → s (apart f k i) ≡ F.◌⊕◌ F.𝟙 (F.neg (F.◌⊗◌ (at i) (at (f.m - k))))
  apart_of k i =
      Br.sum_of f l _ _ one_in (l.opp_in _ (at_in (i + (f.m - k))))
      ∙ ap₂ F.◌⊕◌ (Br.one_of f l) (Br.opp_of f l _ (at_in (i + (f.m - k))) ∙ ap F.neg (at_add i (f.m - k)))

  -- the factor of a position, which is 1 where it does not pass or is k
  factor : (k n x : ℕ) → x < f.q → (b d : Bool) → s (cond b (cond d x (f.prod x (apart f k n))) x)
      ≡ F.◌⊗◌ (s x) (F.◌⊕◌ F.𝟙 (F.neg (F.◌⊗◌ (cond (b && not d) (at n) F.𝟘) (at (f.m - k)))))
  factor k n x h true false = Br.prod_of f l x _ h (apart_in k n) ∙ ap (F.◌⊗◌ (s x)) (apart_of k n)
  factor k n x h true true = V.solve2 F (λ x z. x := x :* (one :− nil :* z)) refl (s x) (at (f.m - k))
  factor k n x h false d = V.solve2 F (λ x z. x := x :* (one :− nil :* z)) refl (s x) (at (f.m - k))

  pub spread_in : (places : List ℕ) (k : ℕ) → spread f places k < f.q
  spread_in places k = go places 1 one_in
    where
      one : (x i : ℕ) → x < f.q → (d : Bool) → cond d x (f.prod x (apart f k i)) < f.q
      one x i h true = h
      one x i h false = l.prod_in _ _ h (apart_in k i)

      go : (xs : List ℕ) (x : ℕ) → x < f.q → fold (λ (x i : ℕ). cond (eqb i k) x (f.prod x (apart f k i))) x xs < f.q
      go [] x h = h
      go (y ∷ xs) x h = go xs _ (one x y h (eqb y k))

  module _ (p : ℕ → Bool) (k : ℕ) where
    abbrev p' : ℕ → Bool
    p' i = p i && not (eqb i k)

    abbrev step : ℕ → ℕ → ℕ
    step x i = cond (eqb i k) x (f.prod x (apart f k i))

    pub spread_of : (n : ℕ) → s (spread f (passing n p) k) ≡ W.prod F n (node p') (at (f.m - k))
    spread_of zero = Br.one_of f l ∙ sym (L.prod_o F (node p') _)
    spread_of (suc n) =
        ap s (folded_passing step 1 p n) ∙ factor k n _ (spread_in (passing n p) k) (p n) (eqb n k)
        ∙ ap (λ t. F.◌⊗◌ t (F.◌⊕◌ F.𝟙 (F.neg (F.◌⊗◌ (node p' n) (at (f.m - k)))))) (spread_of n) ∙ sym (L.prod_last F n (node p') _)
