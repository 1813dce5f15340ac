-- The field of a meaning, on the numbers below q; and how numbers and rows are read in it.
use Rattle.std.specs.Prelude.{◌≡◌, ℕ, ◌%◌, ◌≢◌, List, slice_index}
use Rattle.std.proofs.Common.{ap, ◌∙◌, mod-lt, mod-eq_of_lt, arith}
use Prim.Native.Nat.{Fin}
use Rattle.std.proofs.Math.Decide.{Fin-discrete}
use Rattle.algebra.specs.Field.{Field}
use Rattle.field.specs.Meaning.{Meaning, Laws}

module _ (f : Meaning) (w : Laws f) where
  -- a number as a symbol: nothing is asked of it
  abbrev pub sym_of : ℕ → Fin f.q
  sym_of n = (n % f.q, mod-lt n (omega (arith, w.q_low)))

  abbrev pub lift : Field (Fin f.q)
  lift = record {
    𝟘 = (0, omega (arith, w.q_low));
    𝟙 = (1, omega (arith, w.q_low));
    ◌⊕◌ = λ x y. (f.sum x.0 y.0, w.sum_in _ _ x.1 y.1);
    ◌⊗◌ = λ x y. (f.prod x.0 y.0, w.prod_in _ _ x.1 y.1);
    neg = λ x. (f.opp x.0, w.opp_in _ x.1);
    inv = λ x. sym_of (f.recip x.0);
    add_assoc = λ x y z. native.Mathlib.Fin.val_path (w.sum_assoc _ _ _ x.1 y.1 z.1);
    add_comm = λ x y. native.Mathlib.Fin.val_path (w.sum_comm _ _ x.1 y.1);
    add_o = λ x. native.Mathlib.Fin.val_path (w.sum_zero _ x.1);
    add_neg = λ x. native.Mathlib.Fin.val_path (w.sum_opp _ x.1);
    mul_assoc = λ x y z. native.Mathlib.Fin.val_path (w.prod_assoc _ _ _ x.1 y.1 z.1);
    mul_comm = λ x y. native.Mathlib.Fin.val_path (w.prod_comm _ _ x.1 y.1);
    mul_one = λ x. native.Mathlib.Fin.val_path (w.prod_one _ x.1);
    mul_add = λ x y z. native.Mathlib.Fin.val_path (w.distrib _ _ _ x.1 y.1 z.1);
    mul_inv = λ x ne. let nz : x.0 ≢ 0 = λ e. ne (native.Mathlib.Fin.val_path e) in
        native.Mathlib.Fin.val_path (ap (f.prod x.0) (mod-eq_of_lt (w.recip_in _ x.1 nz)) ∙ w.prod_recip _ x.1 nz);
    one_ne = λ e. let h : ◌≡◌ {A = ℕ} 1 0 = ap (λ (x : Fin f.q). x.0) e in omega arith;
    eq? = Fin-discrete f.q;
  }

  -- a row of numbers as a polynomial
  abbrev pub poly : List ℕ → ℕ → Fin f.q
  poly xs i = sym_of (slice_index xs i)
