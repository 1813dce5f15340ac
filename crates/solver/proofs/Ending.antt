-- After the last step: the lower pair, divided by its leading coefficient, is the least.
use Rattle.std.proofs.Common.{◌≡◌, ℕ, ◌+◌, ◌-◌, ◌<◌, ◌≤◌, ◌≢◌, List, length, get_or, take, drop, ℤ, pos, ◌+ℤ◌, sym, refl, ap, ◌∙◌, subst, arith, length-take, get_or-take}
use mathlib.Core.Path.{fun_ext}
use Prim.Native.Nat.{Fin}
use native.Mathlib.Decide.{dec_lt}
use Rattle.std.proofs.lemmas.Grind.{same_number_lists}
use Rattle.std.proofs.lemmas.List.{get_or_past, get_or-drop, length-drop}
use Rattle.algebra.specs.Field.{Field}
use Rattle.algebra.specs.Lead.{Left, Right}
use Rattle.algebra.specs.Poly.{In}
use Rattle.algebra.proofs.Convolution as C
use Rattle.algebra.proofs.LeastPair.{Basis}
use Rattle.algebra.proofs.Minimality as M
use Rattle.field.specs.Meaning.{Meaning, Laws}
use Rattle.field.specs.Symbols.{Symbols, Within}
use Rattle.field.specs.Lifted.{lift, poly, sym_of}
use Rattle.field.proofs.Symbols.{within_from, below_from}
use Rattle.field.proofs.Lifting as L
use Rattle.solver.specs.Pairs.{Term, left, right, Lower, Leads, Congruent, Solution, at}
use Rattle.solver.specs.Answer.{Solved, side_of, side_number}
use Rattle.solver.specs.RowSteps.{Scaled}
use Rattle.solver.specs.PairSteps.{InField, Short, Held}
use Rattle.solver.specs.WriteSteps.{Written}
use Rattle.solver.specs.Sides as OnSide
use Rattle.solver.specs.Sides.{on}
use Rattle.solver.specs.declared.Side.{Side}
use Rattle.solver.specs.declared.Side.TheVariants as side
use Rattle.solver.specs.declared.pair.Pair.{Pair}
use Rattle.solver.proofs.RowProducts.{prod_zero}
use Rattle.solver.proofs.TermOrder.{le_in, le_out, lt_in, lt_out}

-- rows of one length that agree from n on
drop_same : (n : ℕ) (xs ys : List ℕ) → length xs ≡ length ys → ((i : ℕ) → n ≤ i → get_or xs i 0 ≡ get_or ys i 0) → drop n xs ≡ drop n ys
drop_same n xs ys e h =
    same_number_lists (drop n xs) (drop n ys) (length-drop n xs ∙ ap (λ k. k - n) e ∙ sym (length-drop n ys))
    (λ k d. get_or-drop n xs k 0 ∙ h (n + k) (omega arith) ∙ sym (get_or-drop n ys k 0))

-- the side that a term stands on, and that its number is the side's
abbrev pub leading_side : Term → Side
leading_side (left i) = side.Left
leading_side (right j) = side.Right

numbered : (t : Term) → side_number (leading_side t) ≡ side_of t
numbered (left i) = refl
numbered (right j) = refl

take_past : (z : ℕ) (xs : List ℕ) (i : ℕ) → z ≤ i → get_or (take z xs) i 0 ≡ 0
take_past z xs i h = get_or_past (take z xs) i 0 (simp length-take (omega arith))

module _ (f : Meaning) (w : Laws f) where
  abbrev F : Field (Fin f.q)
  F = lift f w

  abbrev s : ℕ → Fin f.q
  s = sym_of f w

  abbrev po : List ℕ → ℕ → Fin f.q
  po = poly f w

  pos_q : 0 < f.q
  pos_q = omega (arith, w.q_low)

  pub within : (xs : List ℕ) → Symbols f.q xs → Within f.q xs
  within xs h = within_from f.q xs pos_q (below_from f.q xs h)

  scaled_at : (c n : ℕ) (a xs ys : List ℕ) → c < f.q → ((i : ℕ) → n < i → get_or a i 0 ≡ 0) → Scaled f c (n + 1) a xs ys → (i : ℕ) → get_or (take (n + 1) ys) i 0 ≡ f.prod c (get_or a i 0)
  scaled_at c n a xs ys hc short k i = elim (dec_lt i (n + 1)) [
    | yes d ↦ get_or-take (n + 1) ys i 0 d ∙ k.done i d
    | no d ↦ take_past (n + 1) ys i (omega arith) ∙ sym (ap (f.prod c) (short i (omega arith)) ∙ prod_zero f w c hc)
  ]

  at_in : (a b : List ℕ) → Within f.q a → Within f.q b → (t : Term) → at a b t < f.q
  at_in a b ha hb (left i) = ha i
  at_in a b ha hb (right j) = hb j

  pub in_of : (n : ℕ) (g u v : List ℕ) → Within f.q g → Within f.q v → Congruent f n g u v → In F n (po g) (po u) (po v)
  in_of n g u v hg hv t j h = ap s (t j h) ∙ L.coefficient_of f w j v g hv hg

  -- a pair that leads lowest, once it is divided by its leading coefficient and written
  module _ (n : ℕ) (r : ℤ) (g : List ℕ) (p : Pair) (hg : Within f.q g) (short : Short f.q n p) (inside : In F n (po g) (po p.left) (po p.right))
      (lead : Term) (top_is : get_or (on (leading_side lead) p.left p.right) p.top 0 ≡ at p.left p.right lead) (leads : Leads r p.left p.right lead)
      (low : (u v : List ℕ) (t : Term) → Solution f n g u v → Leads r u v t → Lower r t lead → ⊥)
      (xs ys xs' ys' : List ℕ) (found : ℕ × ℕ × Side) (lx : length xs' ≡ length xs) (ly : length ys' ≡ length ys)
      (k : Written f (leading_side lead) (n + 1) p xs ys xs' ys' found) where
    abbrev a : List ℕ
    a = p.left

    abbrev b : List ℕ
    b = p.right

    abbrev c : ℕ
    c = f.recip (at a b lead)

    ha : Within f.q a
    ha = short.symbols.left_in

    hb : Within f.q b
    hb = short.symbols.right_in

    hc : c < f.q
    hc = w.recip_in _ (at_in a b ha hb lead) leads.there

    left_is : Scaled f c (n + 1) a xs xs'
    left_is = subst (λ x. Scaled f (f.recip x) (n + 1) a xs xs') top_is k.left

    right_is : Scaled f c (n + 1) b ys ys'
    right_is = subst (λ x. Scaled f (f.recip x) (n + 1) b ys ys') top_is k.right

    each : (t : Term) → at (take (n + 1) xs') (take (n + 1) ys') t ≡ f.prod c (at a b t)
    each (left i) = scaled_at _ n a xs xs' hc (λ i d. short.left_short i (omega (arith, short.sized))) left_is i
    each (right j) = scaled_at _ n b ys ys' hc (λ i d. short.right_short i (omega (arith, short.sized))) right_is j

    monic : at (take (n + 1) xs') (take (n + 1) ys') lead ≡ 1
    monic = let h = at_in a b ha hb lead in each lead ∙ w.prod_comm _ _ hc h ∙ w.prod_recip _ h leads.there

    there : at (take (n + 1) xs') (take (n + 1) ys') lead ≢ 0
    there z = let o : ◌≡◌ {A = ℕ} 1 0 = sym monic ∙ z in omega arith

    A_in : Within f.q (take (n + 1) xs')
    A_in i = rw (each (left i)) (w.prod_in _ _ hc (ha i))

    B_in : Within f.q (take (n + 1) ys')
    B_in i = rw (each (right i)) (w.prod_in _ _ hc (hb i))

    solves : Congruent f n g (take (n + 1) xs') (take (n + 1) ys')
    solves j h =
        let pB : po (take (n + 1) ys') ≡ (λ i. F.◌⊗◌ (s c) (po b i)) = fun_ext (λ i. ap s (each (right i)) ∙ L.prod_of f w _ _ hc (hb i)) in
        L.same_of f w _ _ (A_in j) (L.coefficient_in f w j _ g B_in hg)
        (ap s (each (left j)) ∙ L.prod_of f w _ _ hc (ha j) ∙ ap (F.◌⊗◌ (s c)) (inside j h)
        ∙ sym (L.coefficient_of f w j _ g B_in hg ∙ ap (λ x. C.conv F j x (po g)) pB ∙ C.conv_scale_l F j (s c) (po b) (po g)))

    pub solved : Solved f g n r xs ys xs' ys' found
    solved = record {
      lead = lead;
      least = record {
        solution = record { left_symbols = λ i _. A_in i; right_symbols = λ i _. B_in i; some = (lead, there); solves = solves };
        leads = record { there = there; above = λ t h. each t ∙ ap (f.prod _) (leads.above t h) ∙ prod_zero f w _ hc };
        monic = monic;
        least = low;
      };
      on = ap side_number k.leading ∙ numbered lead;
      left_counted = k.left_counted;
      right_counted = k.right_counted;
      left_kept = drop_same (n + 1) xs' xs lx k.left.rest;
      right_kept = drop_same (n + 1) ys' ys ly k.right.rest;
    }

  module _ (r : ℤ) (l m : ℕ) (e : pos l ≡ r +ℤ pos m) where
    -- a leading term, of the polynomials
    pub left_of : (u v : List ℕ) (i : ℕ) → Within f.q u → Leads r u v (left i) → Left F l m (po u) (po v) i
    left_of u v i hu t = record {
      top = λ z. t.there (L.nil_of f w _ (hu i) z);
      above = λ j h. L.nil_to f w _ (t.above (left j) h);
      other = λ j h. L.nil_to f w _ (t.above (right j) (le_in r l m e i j h));
    }

    pub right_of : (u v : List ℕ) (j : ℕ) → Within f.q v → Leads r u v (right j) → Right F l m (po u) (po v) j
    right_of u v j hv t = record {
      top = λ z. t.there (L.nil_of f w _ (hv j) z);
      above = λ i h. L.nil_to f w _ (t.above (right i) h);
      other = λ i h. L.nil_to f w _ (t.above (left i) (lt_in r l m e j i h));
    }

    -- two pairs of the congruence whose exponents add up to n: no solution leads lower than the lower of the two
    module _ (n : ℕ) (g : List ℕ) (hg : Within f.q g) (a b u v : ℕ → Fin f.q) (p q : ℕ) (two : Basis F l m n (po g) a b u v p q) where
      not_left : (x y : List ℕ) (i : ℕ) → Solution f n g x y → Leads r x y (left i) → p ≤ i
      not_left x y i s d =
          M.no_left_below F l m n (po g) u v p q two.size two.inr two.right (po x) (po y) i
          (in_of n g x y hg (within y s.right_symbols) s.solves) (left_of x y i (within x s.left_symbols) d)

      not_right : (x y : List ℕ) (j : ℕ) → Solution f n g x y → Leads r x y (right j) → q ≤ j
      not_right x y j s d =
          M.no_right_below F l m n (po g) a b p q two.size two.inl two.left (po x) (po y) j
          (in_of n g x y hg (within y s.right_symbols) s.solves) (right_of x y j (within y s.right_symbols) d)

      pub left_lowest : p + m ≤ q + l → (x y : List ℕ) (t : Term) → Solution f n g x y → Leads r x y t → Lower r t (left p) → ⊥
      left_lowest le x y (left i) s d h = let k = not_left x y i s d in omega arith
      left_lowest le x y (right j) s d h = let k = not_right x y j s d in let z = lt_out r l m e j p h in omega arith

      pub right_lowest : q + l < p + m → (x y : List ℕ) (t : Term) → Solution f n g x y → Leads r x y t → Lower r t (right q) → ⊥
      right_lowest lt x y (left i) s d h = let k = not_left x y i s d in let z = le_out r l m e i q h in omega arith
      right_lowest lt x y (right j) s d h = let k = not_right x y j s d in omega arith

    module _ (n : ℕ) (g : List ℕ) (a b : Pair) (hg : Within f.q g) (held : Held f w g l m n a b) where
      left_leads : Leads r a.left a.right (left a.top)
      left_leads = record { there = λ z. held.basis.left.top (L.nil_to f w _ z); above = up }
        where
          up : (t : Term) → Lower r (left a.top) t → at a.left a.right t ≡ 0
          up (left i) h = L.nil_of f w _ (held.one.symbols.left_in i) (held.basis.left.above i h)
          up (right j) h = L.nil_of f w _ (held.one.symbols.right_in j) (held.basis.left.other j (le_out r l m e a.top j h))

      right_leads : Leads r b.left b.right (right b.top)
      right_leads = record { there = λ z. held.basis.right.top (L.nil_to f w _ z); above = up }
        where
          up : (t : Term) → Lower r (right b.top) t → at b.left b.right t ≡ 0
          up (left i) h = L.nil_of f w _ (held.two.symbols.left_in i) (held.basis.right.other i (lt_out r l m e b.top i h))
          up (right j) h = L.nil_of f w _ (held.two.symbols.right_in j) (held.basis.right.above j h)

      module _ (xs ys xs' ys' : List ℕ) (found : ℕ × ℕ × Side) (lx : length xs' ≡ length xs) (ly : length ys' ≡ length ys) where
        pub solved_on : (side : Side) → OnSide.IsLower l m a.top b.top side → Written f side (n + 1) (on side a b) xs ys xs' ys' found → Solved f g n r xs ys xs' ys' found
        solved_on side.Left le k =
            solved n r g a hg held.one held.basis.inl (left a.top) refl left_leads (left_lowest n g hg _ _ _ _ _ _ held.basis le) xs ys xs' ys' found lx ly k
        solved_on side.Right lt k =
            solved n r g b hg held.two held.basis.inr (right b.top) refl right_leads (right_lowest n g hg _ _ _ _ _ _ held.basis lt) xs ys xs' ys' found lx ly k

-- the pair on this side leads there
pub record LeadsOn (q n : ℕ) (side : Side) (p : Pair) : Type 0 where
  pub top : p.top ≤ n
  pub some : get_or (on side p.left p.right) p.top 0 ≢ 0
  pub symbols : InField q p

pub leads_on : (f : Meaning) (w : Laws f) (g : List ℕ) (l m n : ℕ) (a b : Pair) → Held f w g l m n a b → (side : Side) → LeadsOn f.q n side (on side a b)
leads_on f w g l m n a b h side.Left =
    let e : a.top + b.top ≡ n = h.basis.size in
    record { top = omega arith; some = λ z. h.basis.left.top (L.nil_to f w _ z); symbols = h.one.symbols }
leads_on f w g l m n a b h side.Right =
    let e : a.top + b.top ≡ n = h.basis.size in
    record { top = omega arith; some = λ z. h.basis.right.top (L.nil_to f w _ z); symbols = h.two.symbols }
