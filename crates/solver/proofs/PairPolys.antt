-- The pairs of a step: they stay short, and what polynomials they and their discrepancies are.
use Rattle.std.proofs.Common.{◌≡◌, ℕ, suc, ◌<◌, List, sym, ap, ◌∙◌, ap₂, arith}
use Prim.Native.Nat.{Fin}
use Rattle.algebra.specs.Field.{Field}
use Rattle.algebra.proofs.LeastPair.{disc, sh, mix, conv_sh}
use Rattle.field.specs.Meaning.{Meaning, Laws}
use Rattle.field.specs.Symbols.{Within}
use Rattle.field.specs.Lifted.{lift, poly, sym_of}
use Rattle.field.proofs.Lifting as L
use Rattle.solver.specs.PairSteps.{Short, PairRaised, PairMixed, discrepancy_of}
use Rattle.solver.specs.declared.pair.Pair.{Pair}
use Rattle.solver.proofs.RowPolys as R

pub short_more : (q k : ℕ) (p : Pair) → Short q k p → Short q (suc k) p
short_more q k p h = record { symbols = h.symbols; sized = omega (arith, h.sized); left_short = h.left_short; right_short = h.right_short }

module _ (f : Meaning) (w : Laws f) (k : ℕ) where
  abbrev F : Field (Fin f.q)
  F = lift f w

  abbrev s : ℕ → Fin f.q
  s = sym_of f w

  abbrev po : List ℕ → ℕ → Fin f.q
  po = poly f w

  pos : 0 < f.q
  pos = omega (arith, w.q_low)

  module _ (p p' : Pair) (h : Short f.q k p) (r : PairRaised p p') where
    pub short_raise : Short f.q (suc k) p'
    short_raise = record {
      symbols = record {
        left_in = R.raised_in f.q p.size _ _ pos h.symbols.left_in r.left;
        right_in = R.raised_in f.q p.size _ _ pos h.symbols.right_in r.right;
      };
      sized = omega (arith, h.sized, r.size);
      left_short = λ i d. r.left.rest i (omega (arith, r.size)) ∙ h.left_short i (omega (arith, r.size));
      right_short = λ i d. r.right.rest i (omega (arith, r.size)) ∙ h.right_short i (omega (arith, r.size));
    }

    pub raise_left : po p'.left ≡ sh F (po p.left)
    raise_left = R.raised_poly f w p.size _ _ r.left h.left_short

    pub raise_right : po p'.right ≡ sh F (po p.right)
    raise_right = R.raised_poly f w p.size _ _ r.right h.right_short

  module _ (c : ℕ) (low p p' : Pair) (hc : c < f.q) (hl : Short f.q k low) (hp : Short f.q k p) (r : PairMixed f c low p p') where
    pub short_mix : Short f.q (suc k) p'
    short_mix = record {
      symbols = record {
        left_in = R.mixed_in f w c low.size _ _ _ hc hl.symbols.left_in hp.symbols.left_in r.left;
        right_in = R.mixed_in f w c low.size _ _ _ hc hl.symbols.right_in hp.symbols.right_in r.right;
      };
      sized = let n = r.no_more (suc k) hp.sized hl.sized in omega arith;
      left_short = λ i d. r.left.rest i (omega (arith, r.low_size)) ∙ hp.left_short i (omega (arith, r.own_size));
      right_short = λ i d. r.right.rest i (omega (arith, r.low_size)) ∙ hp.right_short i (omega (arith, r.own_size));
    }

    pub mix_left : po p'.left ≡ mix F (s c) (po low.left) (po p.left)
    mix_left = R.mixed_poly f w c low.size _ _ _ r.left hc hl.symbols.left_in hp.symbols.left_in hl.left_short

    pub mix_right : po p'.right ≡ mix F (s c) (po low.right) (po p.right)
    mix_right = R.mixed_poly f w c low.size _ _ _ r.right hc hl.symbols.right_in hp.symbols.right_in hl.right_short

module _ (f : Meaning) (w : Laws f) (g : List ℕ) (hg : Within f.q g) where
  abbrev D : ℕ → Pair → Fin f.q
  D k p = disc (lift f w) k (poly f w g) (poly f w p.left) (poly f w p.right)

  pub discrepancy_in : (k : ℕ) (p : Pair) → Short f.q k p → discrepancy_of f k g p < f.q
  discrepancy_in k p h = w.sum_in _ _ (h.symbols.left_in k) (w.opp_in _ (L.coefficient_in f w k _ _ h.symbols.right_in hg))

  pub discrepancy_is : (k : ℕ) (p : Pair) → Short f.q k p → sym_of f w (discrepancy_of f k g p) ≡ D k p
  discrepancy_is k p h =
      let ci = L.coefficient_in f w k p.right g h.symbols.right_in hg in
      L.sum_of f w _ _ (h.symbols.left_in k) (w.opp_in _ ci)
      ∙ ap ((lift f w).◌⊕◌ (poly f w p.left k)) (L.opp_of f w _ ci ∙ ap (lift f w).neg (L.coefficient_of f w k p.right g h.symbols.right_in hg))

  -- times x, a pair has its discrepancy one place further
  pub discrepancy_raised : (k : ℕ) (p p' : Pair) → Short f.q k p → PairRaised p p' → discrepancy_of f (suc k) g p' ≡ discrepancy_of f k g p
  discrepancy_raised k p p' h r =
      let h' = short_raise f w k p p' h r in
      L.same_of f w _ _ (discrepancy_in (suc k) p' h') (discrepancy_in k p h)
      (discrepancy_is (suc k) p' h'
      ∙ ap₂ (λ a b. disc (lift f w) (suc k) (poly f w g) a b) (raise_left f w k p p' h r) (raise_right f w k p p' h r)
      ∙ ap (λ t. (lift f w).◌⊕◌ (poly f w p.left k) ((lift f w).neg t)) (conv_sh (lift f w) (suc k) (poly f w p.right) (poly f w g))
      ∙ sym (discrepancy_is k p h))
