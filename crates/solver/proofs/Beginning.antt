-- Before the first step: the pairs (1, 0) and (0, 1), and the discrepancy of the first, which is 1.
use Rattle.std.proofs.Common.{◌≡◌, ℕ, zero, suc, ◌<◌, List, get_or, set, replicate, sym, refl, ap, ◌∙◌, subst, ap₂, arith}
use mathlib.Core.Path.{fun_ext}
use Prim.Native.Nat.{Fin}
use Rattle.algebra.specs.Field.{Field}
use Rattle.algebra.proofs.Convolution as C
use Rattle.algebra.proofs.LeastPair.{disc, one_at, start}
use Rattle.field.specs.Meaning.{Meaning, Laws}
use Rattle.field.specs.Symbols.{Within}
use Rattle.field.specs.Lifted.{lift, poly, sym_of}
use Rattle.field.proofs.Lifting as L
use Rattle.solver.specs.PairSteps.{Short, Held, Starts, discrepancy_of}
use Rattle.solver.specs.BasisSteps.{IsKnown, Reached}
use Rattle.solver.specs.Sides.{on}
use Rattle.solver.specs.declared.Side.{Side}
use Rattle.solver.specs.declared.Side.TheVariants.{Left, Right}
use Rattle.solver.specs.declared.order.Order.{Order}
use Rattle.solver.specs.declared.pair.Pair.{Pair}
use Rattle.solver.specs.declared.steps.Basis.{Basis}
use Rattle.solver.specs.declared.steps.Known.TheVariants as Known
use Rattle.solver.proofs.PairPolys.{discrepancy_in, discrepancy_is}
use Rattle.solver.proofs.Turns.{basis_at}

pub zeros : (n i : ℕ) → ◌≡◌ {A = ℕ} (get_or (replicate n 0) i 0) 0
zeros zero i = refl
zeros (suc n) zero = refl
zeros (suc n) (suc i) = zeros n i

pub zeros_after : (n i : ℕ) → 0 < i → ◌≡◌ {A = ℕ} (get_or (set (replicate (suc n) 0) 0 1) i 0) 0
zeros_after n zero h = absurd (omega arith)
zeros_after n (suc i) h = zeros n i

module _ (f : Meaning) (w : Laws f) where
  abbrev F : Field (Fin f.q)
  F = lift f w

  module _ (side : Side) (p : Pair) (s : Starts side p) where
    one_poly : poly f w (on side p.left p.right) ≡ one_at F
    one_poly = fun_ext each
      where
        each : (i : ℕ) → poly f w (on side p.left p.right) i ≡ one_at F i
        each zero = ap (sym_of f w) s.first ∙ L.one_of f w
        each (suc i) = L.nil_to f w _ (s.later (suc i) (omega arith))

    none_poly : poly f w (on side p.right p.left) ≡ (λ i. F.𝟘)
    none_poly = fun_ext (λ i. L.nil_to f w _ (s.nil i))

    one_in : Within f.q (on side p.left p.right)
    one_in zero = rw s.first (omega (arith, w.q_low))
    one_in (suc i) = rw (s.later (suc i) (omega arith)) (omega (arith, w.q_low))

    none_in : Within f.q (on side p.right p.left)
    none_in i = rw (s.nil i) (omega (arith, w.q_low))

  short_left : (p : Pair) → Starts Left p → Short f.q 0 p
  short_left p s = record {
    symbols = record { left_in = one_in Left p s; right_in = none_in Left p s };
    sized = omega (arith, s.size);
    left_short = λ i h. s.later i (omega (arith, s.size));
    right_short = λ i h. s.nil i;
  }

  short_right : (p : Pair) → Starts Right p → Short f.q 0 p
  short_right p s = record {
    symbols = record { right_in = one_in Right p s; left_in = none_in Right p s };
    sized = omega (arith, s.size);
    right_short = λ i h. s.later i (omega (arith, s.size));
    left_short = λ i h. s.nil i;
  }

  held_start : (l m : ℕ) (g : List ℕ) (a b : Pair) → Starts Left a → Starts Right b → Held f w g l m 0 a b
  held_start l m g a b sa sb = record {
    one = short_left a sa;
    two = short_right b sb;
    basis = basis_at f w l m 0 (poly f w g) _ _ _ _ _ _ _ _ _ _ _ _ (one_poly Left a sa) (none_poly Left a sa) (none_poly Right b sb) (one_poly Right b sb) sa.top sb.top (start F l m (poly f w g));
  }

  known_start : (g : List ℕ) (a : Pair) → Within f.q g → Starts Left a → 1 ≡ discrepancy_of f 0 g a
  known_start g a hg s =
      let h = short_left a s in
      L.same_of f w 1 _ (omega (arith, w.q_low)) (discrepancy_in f w g hg 0 a h)
      (L.one_of f w
      ∙ sym (ap₂ (λ x y. disc F 0 (poly f w g) x y) (one_poly Left a s) (none_poly Left a s)
      ∙ ap (λ t. F.◌⊕◌ F.𝟙 (F.neg t)) (C.conv_o F _ _ ∙ C.o_mul F _)
      ∙ ap (F.◌⊕◌ F.𝟙) (sym (C.o_add F _) ∙ F.add_neg F.𝟘) ∙ C.add_o F _)
      ∙ sym (discrepancy_is f w g hg 0 a h))

pub reached_start : (f : Meaning) (w : Laws f) (g : List ℕ) (o : Order) (b : Basis) → Within f.q g → Starts Left b.left → Starts Right b.right → b.known ≡ Known.Left 1 → Reached f g o 0 b
reached_start f w g o b hg sa sb e = record {
  held = λ v. held_start f v o.plus o.minus g b.left b.right sa sb;
  known = subst (IsKnown f 0 g b.left b.right) (sym e) (known_start f w g b.left hg sa);
}
