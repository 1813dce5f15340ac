-- One turn of the solver keeps what it holds, and the discrepancy of the pair that was multiplied by x is known.
use Rattle.std.proofs.Common.{◌≡◌, ℕ, suc, ◌+◌, ◌<◌, ◌≤◌, ◌≢◌, ◌⊎◌, inl, inr, List, length, sym, refl, ap, ◌∙◌, subst, ap₂, add-one, arith}
use Prim.Native.Nat.{Fin}
use native.Mathlib.Decide.{ℕ_discrete}
use Rattle.algebra.specs.Field.{Field}
use Rattle.algebra.proofs.LeastPair.{Basis, disc, mix, turn_left_fits, turn_right_fits, turn_mend_left, turn_mend_right}
use Rattle.field.specs.Meaning.{Meaning, Laws}
use Rattle.field.specs.Symbols.{Within}
use Rattle.field.specs.Lifted.{lift, poly, sym_of}
use Rattle.field.proofs.Lifting as L
use Rattle.solver.specs.PairSteps.{InField, Short, Held, PairRaised, PairMixed, Stepped, discrepancy_of}
use Rattle.solver.specs.BasisSteps.{IsKnown, Reached}
use Rattle.solver.specs.Sides.{on}
use Rattle.solver.specs.declared.Side.{Side}
use Rattle.solver.specs.declared.Side.TheVariants.{Left, Right}
use Rattle.solver.specs.declared.order.Order.{Order}
use Rattle.solver.specs.declared.pair.Pair.{Pair}
use Rattle.solver.specs.declared.steps.Basis.{Basis as Two}
use Rattle.solver.specs.declared.steps.Known.{Known}
use Rattle.solver.proofs.PairPolys as P

module _ (f : Meaning) (w : Laws f) where
  abbrev F : Field (Fin f.q)
  F = lift f w

  abbrev s : ℕ → Fin f.q
  s = sym_of f w

  abbrev po : List ℕ → ℕ → Fin f.q
  po = poly f w

  -- a basis, at polynomials equal to its own
  pub basis_at : (l m k : ℕ) (g a a' b b' u u' v v' : ℕ → Fin f.q) (p p' q q' : ℕ) → a' ≡ a → b' ≡ b → u' ≡ u → v' ≡ v → p' ≡ p → q' ≡ q →
      Basis F l m k g a b u v p q → Basis F l m k g a' b' u' v' p' q'
  basis_at l m k g a a' b b' u u' v v' p p' q q' ea eb eu ev ep eq h =
      subst (λ x. Basis F l m k g x b' u' v' p' q') (sym ea)
      (subst (λ x. Basis F l m k g a x u' v' p' q') (sym eb)
      (subst (λ x. Basis F l m k g a b x v' p' q') (sym eu)
      (subst (λ x. Basis F l m k g a b u x p' q') (sym ev)
      (subst (λ x. Basis F l m k g a b u v x q') (sym ep)
      (subst (λ x. Basis F l m k g a b u v p x) (sym eq) h)))))

  module _ (l m k : ℕ) (g : List ℕ) (a b a' b' : Pair) (hg : Within f.q g) (held : Held f w g l m k a b) where
    d_in : (p : Pair) → Short f.q k p → discrepancy_of f k g p < f.q
    d_in p h = P.discrepancy_in f w g hg k p h

    none : (p : Pair) → Short f.q k p → discrepancy_of f k g p ≡ 0 → disc F k (po g) (po p.left) (po p.right) ≡ F.𝟘
    none p h e = sym (P.discrepancy_is f w g hg k p h) ∙ L.nil_to f w _ e

    some : (p : Pair) → Short f.q k p → discrepancy_of f k g p ≢ 0 → ¬ (disc F k (po g) (po p.left) (po p.right) ≡ F.𝟘)
    some p h ne e = ne (L.nil_of f w _ (d_in p h) (P.discrepancy_is f w g hg k p h ∙ e))

    -- the factor with which the pair p mends the pair r
    factor_in : (p r : Pair) → Short f.q k p → Short f.q k r → discrepancy_of f k g p ≢ 0 →
        f.opp (f.prod (discrepancy_of f k g r) (f.recip (discrepancy_of f k g p))) < f.q
    factor_in p r hp hr ne = w.opp_in _ (w.prod_in _ _ (d_in r hr) (w.recip_in _ (d_in p hp) ne))

    factor_of : (p r : Pair) → Short f.q k p → Short f.q k r → discrepancy_of f k g p ≢ 0 →
        s (f.opp (f.prod (discrepancy_of f k g r) (f.recip (discrepancy_of f k g p)))) ≡ F.neg (F.◌⊗◌ (disc F k (po g) (po r.left) (po r.right)) (F.inv (disc F k (po g) (po p.left) (po p.right))))
    factor_of p r hp hr ne =
        let i_in = w.recip_in _ (d_in p hp) ne in
        L.opp_of f w _ (w.prod_in _ _ (d_in r hr) i_in)
        ∙ ap F.neg (L.prod_of f w _ _ (d_in r hr) i_in ∙ ap₂ F.◌⊗◌ (P.discrepancy_is f w g hg k r hr) (L.recip_of f w _ (d_in p hp) ∙ ap F.inv (P.discrepancy_is f w g hg k p hp)))

    left_fits : discrepancy_of f k g a ≡ 0 → a' ≡ a → PairRaised b b' → Held f w g l m (suc k) a' b'
    left_fits e same r = subst (λ x. Held f w g l m (suc k) x b') (sym same) (record {
      one = P.short_more f.q k a held.one;
      two = P.short_raise f w k b b' held.two r;
      basis = basis_at l m (suc k) (po g) _ _ _ _ _ _ _ _ _ _ _ _ refl refl (P.raise_left f w k b b' held.two r) (P.raise_right f w k b b' held.two r) refl (r.top ∙ add-one _)
          (turn_left_fits F l m k (po g) _ _ _ _ _ _ held.basis (none a held.one e));
    })

    right_fits : discrepancy_of f k g b ≡ 0 → b' ≡ b → PairRaised a a' → Held f w g l m (suc k) a' b'
    right_fits e same r = subst (λ x. Held f w g l m (suc k) a' x) (sym same) (record {
      one = P.short_raise f w k a a' held.one r;
      two = P.short_more f.q k b held.two;
      basis = basis_at l m (suc k) (po g) _ _ _ _ _ _ _ _ _ _ _ _ (P.raise_left f w k a a' held.one r) (P.raise_right f w k a a' held.one r) refl refl (r.top ∙ add-one _) refl
          (turn_right_fits F l m k (po g) _ _ _ _ _ _ held.basis (none b held.two e));
    })

    mend_right : discrepancy_of f k g a ≢ 0 → a.top + m ≤ b.top + l → PairRaised a a' →
        PairMixed f (f.opp (f.prod (discrepancy_of f k g b) (f.recip (discrepancy_of f k g a)))) a b b' → Held f w g l m (suc k) a' b'
    mend_right ne le r x =
        let ha = held.one in
        let hb = held.two in
        let c_in = factor_in a b ha hb ne in
        let fo = factor_of a b ha hb ne in
        record {
          one = P.short_raise f w k a a' ha r;
          two = P.short_mix f w k _ a b b' c_in ha hb x;
          basis = basis_at l m (suc k) (po g) _ _ _ _ _ _ _ _ _ _ _ _ (P.raise_left f w k a a' ha r) (P.raise_right f w k a a' ha r)
              (P.mix_left f w k _ a b b' c_in ha hb x ∙ ap (λ t. mix F t (po a.left) (po b.left)) fo)
              (P.mix_right f w k _ a b b' c_in ha hb x ∙ ap (λ t. mix F t (po a.right) (po b.right)) fo) (r.top ∙ add-one _) x.top
              (turn_mend_right F l m k (po g) _ _ _ _ _ _ held.basis (some a ha ne) le);
        }

    mend_left : discrepancy_of f k g b ≢ 0 → b.top + l < a.top + m → PairRaised b b' →
        PairMixed f (f.opp (f.prod (discrepancy_of f k g a) (f.recip (discrepancy_of f k g b)))) b a a' → Held f w g l m (suc k) a' b'
    mend_left ne lt r x =
        let ha = held.one in
        let hb = held.two in
        let c_in = factor_in b a hb ha ne in
        let fo = factor_of b a hb ha ne in
        record {
          one = P.short_mix f w k _ b a a' c_in hb ha x;
          two = P.short_raise f w k b b' hb r;
          basis = basis_at l m (suc k) (po g) _ _ _ _ _ _ _ _ _ _ _ _
              (P.mix_left f w k _ b a a' c_in hb ha x ∙ ap (λ t. mix F t (po b.left) (po a.left)) fo)
              (P.mix_right f w k _ b a a' c_in hb ha x ∙ ap (λ t. mix F t (po b.right) (po a.right)) fo)
              (P.raise_left f w k b b' hb r) (P.raise_right f w k b b' hb r) x.top (r.top ∙ add-one _)
              (turn_mend_left F l m k (po g) _ _ _ _ _ _ held.basis (some b hb ne) lt);
        }

    next : Held f w g l m (suc k) a' b' → Held f w g l m (k + 1) a' b'
    next h = subst (λ n. Held f w g l m n a' b') (sym (add-one k)) h

    -- the left pair is lower
    pub left_low : (x y : ℕ) → x ≡ discrepancy_of f k g a → y ≡ discrepancy_of f k g b → a.top + m ≤ b.top + l → Stepped f x y a b a' b' → Held f w g l m (k + 1) a' b'
    left_low x y ex ey le st = next (elim (ℕ_discrete x 0) [
      | yes z ↦ let d = st.fits z in left_fits (sym ex ∙ z) d.0 d.1
      | no z ↦ let d = st.mends z in mend_right (λ e. z (ex ∙ e)) le d.0 (subst (λ t. PairMixed f t a b b') (ap₂ (λ i j. f.opp (f.prod j (f.recip i))) ex ey) d.1)
    ])

    -- the right pair is lower
    pub right_low : (x y : ℕ) → x ≡ discrepancy_of f k g b → y ≡ discrepancy_of f k g a → b.top + l < a.top + m → Stepped f x y b a b' a' → Held f w g l m (k + 1) a' b'
    right_low x y ex ey lt st = next (elim (ℕ_discrete x 0) [
      | yes z ↦ let d = st.fits z in right_fits (sym ex ∙ z) d.0 d.1
      | no z ↦ let d = st.mends z in mend_left (λ e. z (ex ∙ e)) lt d.0 (subst (λ t. PairMixed f t b a a') (ap₂ (λ i j. f.opp (f.prod j (f.recip i))) ex ey) d.1)
    ])

  module _ (k : ℕ) (g : List ℕ) (low high low' high' : Pair) (x y : ℕ) (hg : Within f.q g) (st : Stepped f x y low high low' high') where
    pub known_high : Short f.q k high → y ≡ discrepancy_of f k g high → x ≡ 0 → y ≡ discrepancy_of f (k + 1) g high'
    known_high h e z = e ∙ sym (P.discrepancy_raised f w g hg k high high' h (st.fits z).1) ∙ ap (λ n. discrepancy_of f n g high') (sym (add-one k))

    pub known_low : Short f.q k low → x ≡ discrepancy_of f k g low → x ≢ 0 → x ≡ discrepancy_of f (k + 1) g low'
    known_low h e z = e ∙ sym (P.discrepancy_raised f w g hg k low low' h (st.mends z).0) ∙ ap (λ n. discrepancy_of f n g low') (sym (add-one k))

-- what a step asks of a pair
pub record Ready (f : Meaning) (g : List ℕ) (k : ℕ) (p : Pair) : Type 0 where
  pub size : p.size ≤ 512
  pub top : p.top ≤ 512
  pub below : discrepancy_of f k g p < f.q
  pub symbols : InField f.q p

pub ready : (f : Meaning) (w : Laws f) (g : List ℕ) (l m k : ℕ) (a b : Pair) → Within f.q g → k < length g → length g ≤ 512 → Held f w g l m k a b → (side : Side) → Ready f g k (on side a b)
ready f w g l m k a b hg lt few h Left =
    let sum : a.top + b.top ≡ k = h.basis.size in
    record { size = omega (arith, h.one.sized); top = omega arith; below = P.discrepancy_in f w g hg k a h.one; symbols = h.one.symbols }
ready f w g l m k a b hg lt few h Right =
    let sum : a.top + b.top ≡ k = h.basis.size in
    record { size = omega (arith, h.two.sized); top = omega arith; below = P.discrepancy_in f w g hg k b h.two; symbols = h.two.symbols }

-- One turn in full: the lower pair is that on this side, both discrepancies are x and y, and one of them is known next.
module _ (f : Meaning) (w : Laws f) (o : Order) (k : ℕ) (g : List ℕ) (b : Two) (a' b' : Pair) (x y : ℕ) (next : Known) (hg : Within f.q g) (h : Reached f g o k b)
    (ex : x ≡ discrepancy_of f k g b.left) (ey : y ≡ discrepancy_of f k g b.right) where
  pub reached_left : b.left.top + o.minus ≤ b.right.top + o.plus → Stepped f x y b.left b.right a' b' → ((x ≡ 0) × (next ≡ Known.Right y)) ⊎ ((x ≢ 0) × (next ≡ Known.Left x)) →
      Reached f g o (k + 1) record { left = a'; right = b'; known = next }
  reached_left low st e = record {
    held = λ v. left_low f v o.plus o.minus k g b.left b.right a' b' hg (h.held v) x y ex ey low st;
    known = elim e [
      | inl d ↦ subst (IsKnown f (k + 1) g a' b') (sym d.1) (known_high f w k g b.left b.right a' b' x y hg st (h.held w).two ey d.0)
      | inr d ↦ subst (IsKnown f (k + 1) g a' b') (sym d.1) (known_low f w k g b.left b.right a' b' x y hg st (h.held w).one ex d.0)
    ];
  }

  pub reached_right : b.right.top + o.plus < b.left.top + o.minus → Stepped f y x b.right b.left b' a' → ((y ≡ 0) × (next ≡ Known.Left x)) ⊎ ((y ≢ 0) × (next ≡ Known.Right y)) →
      Reached f g o (k + 1) record { left = a'; right = b'; known = next }
  reached_right low st e = record {
    held = λ v. right_low f v o.plus o.minus k g b.left b.right a' b' hg (h.held v) y x ey ex low st;
    known = elim e [
      | inl d ↦ subst (IsKnown f (k + 1) g a' b') (sym d.1) (known_high f w k g b.right b.left b' a' y x hg st (h.held w).one ex d.0)
      | inr d ↦ subst (IsKnown f (k + 1) g a' b') (sym d.1) (known_low f w k g b.right b.left b' a' y x hg st (h.held w).two ey d.0)
    ];
  }
