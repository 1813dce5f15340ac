-- What the congruence and a leading term of rows say of polynomials, and back.
use Rattle.std.proofs.Common.{◌≡◌, ℕ, zero, suc, ◌-◌, ◌<◌, ◌≤◌, List, [], ◌∷◌, get_or, ℤ, pos, ◌+ℤ◌, sym, refl, ap, ◌∙◌, mod-eq_of_lt, arith}
use mathlib.Core.Path.{fun_ext}
use Prim.Native.Nat.{Fin}
use Rattle.field.specs.Meaning.{Meaning, Laws}
use Rattle.field.specs.Sums.{sum_of}
use Rattle.field.specs.Lifted.{lift, poly, sym_of}
use Rattle.algebra.specs.Field.{Field}
use Rattle.algebra.specs.Poly.{In}
use Rattle.algebra.specs.Lead.{Left, Right}
use Rattle.solver.specs.Pairs.{Term, left, right, Lower, Leads, Congruent, Least, at}
use Rattle.field.proofs.Lifting as Br
use Rattle.solver.proofs.TermOrder as T
use Rattle.solver.proofs.Ending.{within}

pub tab : ℕ → (ℕ → ℕ) → List ℕ
tab zero h = []
tab (suc n) h = h 0 ∷ tab n (λ i. h (suc i))

pub tab_at : (n : ℕ) (h : ℕ → ℕ) → ((i : ℕ) → n ≤ i → h i ≡ 0) → (i : ℕ) → get_or (tab n h) i 0 ≡ h i
unfolding tab
tab_at zero h z i = sym (z i (omega arith))
tab_at (suc n) h z zero = refl
tab_at (suc n) h z (suc i) = tab_at n (λ j. h (suc j)) (λ j d. z (suc j) (omega arith)) i

module _ (f : Meaning) (w : Laws f) where
  abbrev F : Field (Fin f.q)
  F = lift f w

  abbrev s : ℕ → Fin f.q
  s = sym_of f w

  abbrev po : List ℕ → ℕ → Fin f.q
  po = poly f w

  sym_back : (x : Fin f.q) → s x.0 ≡ x
  sym_back x = native.Mathlib.Fin.val_path (mod-eq_of_lt x.1)

  -- a polynomial as a row
  pub row : ℕ → (ℕ → Fin f.q) → List ℕ
  row n h = tab n (λ i. (h i).0)

  module _ (n : ℕ) (h : ℕ → Fin f.q) (short : (i : ℕ) → n ≤ i → h i ≡ F.𝟘) where
    pub row_at : (i : ℕ) → get_or (row n h) i 0 ≡ (h i).0
    unfolding row
    row_at i = tab_at n (λ j. (h j).0) (λ j d. ap (λ (x : Fin f.q). x.0) (short j d)) i

    pub row_in : (i : ℕ) → get_or (row n h) i 0 < f.q
    row_in i = rw (row_at i) (h i).1

    pub row_poly : po (row n h) ≡ h
    row_poly = fun_ext (λ i. ap s (row_at i) ∙ sym_back (h i))

  pub of_in : (n : ℕ) (g u v : List ℕ) → ((i : ℕ) → get_or g i 0 < f.q) → ((i : ℕ) → get_or u i 0 < f.q) → ((i : ℕ) → get_or v i 0 < f.q) → In F n (po g) (po u) (po v) → Congruent f n g u v
  of_in n g u v hg hu hv t j h = Br.same_of f w _ _ (hu j) (Br.coefficient_in f w j v g hv hg) (t j h ∙ sym (Br.coefficient_of f w j v g hv hg))

  module _ (r : ℤ) (l m : ℕ) (e : pos l ≡ r +ℤ pos m) where
    pub left_of : (u v : List ℕ) (i : ℕ) → ((i : ℕ) → get_or u i 0 < f.q) → Leads r u v (left i) → Left F l m (po u) (po v) i
    left_of u v i hu t = record {
      top = λ z. t.there (Br.nil_of f w _ (hu i) z);
      above = λ j h. Br.nil_to f w _ (t.above (left j) h);
      other = λ j h. Br.nil_to f w _ (t.above (right j) (T.le_in r l m e i j h));
    }

    pub right_of : (u v : List ℕ) (j : ℕ) → ((i : ℕ) → get_or v i 0 < f.q) → Leads r u v (right j) → Right F l m (po u) (po v) j
    right_of u v j hv t = record {
      top = λ z. t.there (Br.nil_of f w _ (hv j) z);
      above = λ i h. Br.nil_to f w _ (t.above (right i) h);
      other = λ i h. Br.nil_to f w _ (t.above (left i) (T.lt_in r l m e j i h));
    }

    pub of_right : (u v : List ℕ) (j : ℕ) → ((i : ℕ) → get_or u i 0 < f.q) → ((i : ℕ) → get_or v i 0 < f.q) → Right F l m (po u) (po v) j → Leads r u v (right j)
    of_right u v j hu hv t = record { there = λ z. t.top (Br.nil_to f w _ z); above = up }
      where
        up : (x : Term) → Lower r (right j) x → at u v x ≡ 0
        up (left i) h = Br.nil_of f w _ (hu i) (t.other i (T.lt_out r l m e j i h))
        up (right i) h = Br.nil_of f w _ (hv i) (t.above i h)

  -- rows with the same places are the same pair
  module _ (n : ℕ) (r : ℤ) (g a b a' b' : List ℕ) (lead : Term) (ea : (i : ℕ) → get_or a' i 0 ≡ get_or a i 0) (eb : (i : ℕ) → get_or b' i 0 ≡ get_or b i 0) where
    same_at : (t : Term) → at a' b' t ≡ at a b t
    same_at (left i) = ea i
    same_at (right j) = eb j

    pub least_same : Least f n r g a b lead → Least f n r g a' b' lead
    least_same x = record {
      solution = record {
        left_symbols = λ i _. rw (ea i) (within f w a x.solution.left_symbols i);
        right_symbols = λ i _. rw (eb i) (within f w b x.solution.right_symbols i);
        some = (lead, λ z. x.leads.there (sym (same_at lead) ∙ z));
        solves = λ j h. ea j ∙ x.solution.solves j h ∙ ap (λ (p : ℕ → ℕ). sum_of f (suc j) (λ i. f.prod (p i) (get_or g (j - i) 0))) (sym (fun_ext eb));
      };
      leads = record { there = λ z. x.leads.there (sym (same_at lead) ∙ z); above = λ t h. same_at t ∙ x.leads.above t h };
      monic = same_at lead ∙ x.monic;
      least = x.least;
    }
