-- The least pair is the only one.
use Rattle.std.proofs.Common.{◌≡◌, ℕ, zero, suc, ◌+◌, ◌<◌, ◌≤◌, List, [], ◌∷◌, length, get_or, ℤ, pos, ◌+ℤ◌, sym, refl, ap, ◌∙◌, subst, arith}
use mathlib.Core.Path.{fun_ext}
use Prim.Native.Nat.{Fin}
use native.Mathlib.Decide.{dec_lt, ℕ_discrete}
use Rattle.std.proofs.lemmas.List.{get_or_past}
use Rattle.algebra.specs.Field.{Field}
use Rattle.algebra.proofs.Convolution as C
use Rattle.algebra.proofs.LeastPair.{mix, in_mix}
use Rattle.algebra.proofs.RingSolver as V
use Rattle.algebra.proofs.RingSolver.{◌:+◌, ◌:*◌, ◌:=◌, nil, one, mns, v0}
use Rattle.field.specs.Meaning.{Meaning, Laws}
use Rattle.field.specs.Symbols.{Symbols, Within}
use Rattle.field.specs.Lifted.{lift, poly, sym_of}
use Rattle.field.proofs.Lifting as L
use Rattle.solver.specs.Pairs.{Term, left, right, Lower, Congruent, Least, OnlyOne, at}
use Rattle.solver.proofs.TermOrder.{weight, weight_same, lower_in, lower_out, differs}
use Rattle.solver.proofs.Ending.{within, in_of}

-- a row from its places
tab : ℕ → (ℕ → ℕ) → List ℕ
tab zero h = []
tab (suc n) h = h 0 ∷ tab n (λ i. h (suc i))

tab_at : (n : ℕ) (h : ℕ → ℕ) → ((i : ℕ) → n ≤ i → h i ≡ 0) → (i : ℕ) → get_or (tab n h) i 0 ≡ h i
unfolding tab
tab_at zero h z i = sym (z i (omega arith))
tab_at (suc n) h z zero = refl
tab_at (suc n) h z (suc i) = tab_at n (λ j. h (suc j)) (λ j d. z (suc j) (omega arith)) i

module _ (f : Meaning) (w : Laws f) where
  abbrev F : Field (Fin f.q)
  F = lift f w

  abbrev s : ℕ → Fin f.q
  s = sym_of f w

  abbrev po : List ℕ → ℕ → Fin f.q
  po = poly f w

  one_q : 1 < f.q
  one_q = omega (arith, w.q_low)

  -- the difference of two rows
  minus : List ℕ → List ℕ → ℕ → ℕ
  minus xs ys i = f.sum (get_or xs i 0) (f.prod (f.opp 1) (get_or ys i 0))

  module _ (xs ys : List ℕ) (hx : Within f.q xs) (hy : Within f.q ys) where
    minus_in : (i : ℕ) → minus xs ys i < f.q
    unfolding minus
    minus_in i = w.sum_in _ _ (hx i) (w.prod_in _ _ (w.opp_in 1 one_q) (hy i))

    minus_of : (i : ℕ) → s (minus xs ys i) ≡ mix F (F.neg F.𝟙) (po ys) (po xs) i
    unfolding minus
    minus_of i = L.sum_of f w _ _ (hx i) (w.prod_in _ _ (w.opp_in 1 one_q) (hy i))
        ∙ ap (F.◌⊕◌ (po xs i)) (L.prod_of f w _ _ (w.opp_in 1 one_q) (hy i) ∙ ap (λ t. F.◌⊗◌ t (po ys i)) (L.opp_of f w 1 one_q ∙ ap F.neg (L.one_of f w)))

    minus_nil : (i : ℕ) → get_or xs i 0 ≡ get_or ys i 0 → minus xs ys i ≡ 0
    minus_nil i e = L.nil_of f w _ (minus_in i) (minus_of i ∙ ap (λ t. F.◌⊕◌ t (F.◌⊗◌ (F.neg F.𝟙) (po ys i))) (ap s e) ∙ V.solve F (po ys i ∷ []) (v0 :+ mns one :* v0 := nil) refl)

    minus_same : (i : ℕ) → minus xs ys i ≡ 0 → get_or xs i 0 ≡ get_or ys i 0
    minus_same i e = L.same_of f w _ _ (hx i) (hy i)
        (V.solve2 F (λ x y. x := (x :+ mns one :* y) :+ y) refl (po xs i) (po ys i)
        ∙ ap (λ t. F.◌⊕◌ t (po ys i)) (sym (minus_of i) ∙ L.nil_to f w _ e) ∙ C.o_add F _)

    diff : List ℕ
    diff = tab (length xs + length ys) (minus xs ys)

    diff_at : (i : ℕ) → get_or diff i 0 ≡ minus xs ys i
    unfolding diff
    diff_at i = tab_at _ (minus xs ys) (λ j d. minus_nil j (get_or_past xs j 0 (omega arith) ∙ sym (get_or_past ys j 0 (omega arith)))) i

    diff_in : Within f.q diff
    diff_in i = rw (diff_at i) (minus_in i)

    diff_poly : po diff ≡ mix F (F.neg F.𝟙) (po ys) (po xs)
    diff_poly = fun_ext (λ i. ap s (diff_at i) ∙ minus_of i)

  module _ (r : ℤ) (l m : ℕ) (e : pos l ≡ r +ℤ pos m) (n : ℕ) (g a b a' b' : List ℕ) (t t' : Term) (sg : Symbols f.q g) (x : Least f n r g a b t) (y : Least f n r g a' b' t') where
    hg : Within f.q g
    hg = within f w g sg

    ha : Within f.q a
    ha = within f w a x.solution.left_symbols

    hb : Within f.q b
    hb = within f w b x.solution.right_symbols

    ha' : Within f.q a'
    ha' = within f w a' y.solution.left_symbols

    hb' : Within f.q b'
    hb' = within f w b' y.solution.right_symbols

    pub same_lead : t ≡ t'
    same_lead = weight_same l m t t' (elim (dec_lt (weight l m t) (weight l m t')) [
      | yes h ↦ absurd (y.least a b t x.solution x.leads (lower_in r l m e t t' h))
      | no h ↦ elim (dec_lt (weight l m t') (weight l m t)) [
        | yes k ↦ absurd (x.least a' b' t' y.solution y.leads (lower_in r l m e t' t k))
        | no k ↦ omega arith
      ]
    ])

    da : List ℕ
    da = diff a a' ha ha'

    db : List ℕ
    db = diff b b' hb hb'

    solves : Congruent f n g da db
    unfolding da db
    solves j h =
        L.same_of f w _ _ (diff_in a a' ha ha' j) (L.coefficient_in f w j _ g (diff_in b b' hb hb') hg)
        (ap (λ p. p j) (diff_poly a a' ha ha')
        ∙ in_mix F n (po g) (po a) (po b) (po a') (po b') (F.neg F.𝟙) (in_of f w n g a b hg hb x.solution.solves) (in_of f w n g a' b' hg hb' y.solution.solves) j h
        ∙ sym (L.coefficient_of f w j _ g (diff_in b b' hb hb') hg ∙ ap (λ p. C.conv F j p (po g)) (diff_poly b b' hb hb')))

    -- equal at a term, so 0 in the difference, and the other way round
    nil_at : (u : Term) → at a b u ≡ at a' b' u → at da db u ≡ 0
    unfolding da db
    nil_at (left i) h = diff_at a a' ha ha' i ∙ minus_nil a a' ha ha' i h
    nil_at (right j) h = diff_at b b' hb hb' j ∙ minus_nil b b' hb hb' j h

    same_at : (u : Term) → at da db u ≡ 0 → at a b u ≡ at a' b' u
    unfolding da db
    same_at (left i) h = minus_same a a' ha ha' i (sym (diff_at a a' ha ha' i) ∙ h)
    same_at (right j) h = minus_same b b' hb hb' j (sym (diff_at b b' hb hb' j) ∙ h)

    -- nothing of the difference stands at t or above
    top : (u : Term) → weight l m t ≤ weight l m u → at da db u ≡ 0
    top u h = nil_at u (elim (dec_lt (weight l m t) (weight l m u)) [
      | yes k ↦ x.leads.above u (lower_in r l m e t u k) ∙ sym (y.leads.above u (subst (λ v. Lower r v u) same_lead (lower_in r l m e t u k)))
      | no k ↦ let z : t ≡ u = weight_same l m t u (omega arith) in
          subst (λ v. at a b v ≡ at a' b' v) z (x.monic ∙ sym (subst (λ v. at a' b' v ≡ 1) (sym same_lead) y.monic))
    ])

    da_in : Within f.q da
    unfolding da
    da_in = diff_in a a' ha ha'

    db_in : Within f.q db
    unfolding db
    db_in = diff_in b b' hb hb'

    -- nor below
    fall : (k : ℕ) → k ≤ weight l m t → ((u : Term) → k ≤ weight l m u → at da db u ≡ 0) → (u : Term) → at da db u ≡ 0
    fall zero h z u = z u (omega arith)
    fall (suc k) h z u = fall k (omega arith) next u
      where
        next : (u : Term) → k ≤ weight l m u → at da db u ≡ 0
        next u d = elim (ℕ_discrete (at da db u) 0) [
          | yes o ↦ o
          | no o ↦ elim (dec_lt k (weight l m u)) [
            | yes q ↦ z u q
            | no q ↦ absurd (x.least da db u
                (record { left_symbols = λ i _. da_in i; right_symbols = λ i _. db_in i; some = (u, o); solves = solves })
                (record { there = o; above = λ v lo. let p = lower_out r l m e u v lo in z v (omega arith) }) (lower_in r l m e u t (omega arith)))
          ]
        ]

    pub same_terms : (u : Term) → at a b u ≡ at a' b' u
    same_terms u = same_at u (fall (weight l m t) (omega arith) top u)

pub only_one : (f : Meaning) → Laws f → OnlyOne f
only_one f w n r g a b a' b' t t' sg x y =
    let d = differs r in
    (same_lead f w r d.0 d.1 d.2 n g a b a' b' t t' sg x y, same_terms f w r d.0 d.1 d.2 n g a b a' b' t t' sg x y)
