-- The least pair of a congruence, from two pairs that are found by computed tests.
use Rattle.std.proofs.Common.{◌≡◌, ℕ, zero, suc, ◌+◌, ◌-◌, ◌<◌, ◌≤◌, Bool, true, false, not, ◌&&◌, eqb, ◌≢◌, List, get_or, drop, ℤ, pos, ◌+ℤ◌, sym, refl, ap, ◌∙◌, subst, arith, lit<, get_or-drop, eq-eqb, eqb-true}
use Rattle.std.proofs.lemmas.Bool.{and_parts}
use Rattle.algebra.proofs.LeastPair.{Basis}
use Rattle.field.specs.Meaning.{Meaning, Laws}
use Rattle.field.specs.Symbols.{all_below, Within}
use Rattle.field.specs.Sums.{coefficient}
use Rattle.field.specs.Lifted.{lift, poly}
use Rattle.field.proofs.Symbols.{within_from}
use Rattle.code.specs.Words.{every}
use Rattle.code.proofs.Decided.{every_at}
use Rattle.solver.specs.Pairs.{Term, left, right, at, Lower, Leads, Congruent, Solution, Least}
use Rattle.solver.specs.Answer.{Counts}
use Rattle.solver.proofs.TermOrder.{le_out, lt_out}
use Rattle.solver.proofs.Ending.{in_of, left_of, right_of, left_lowest, right_lowest}

-- whether c is the count of a row
abbrev pub counted : List ℕ → ℕ → Bool
counted xs zero = all_below 1 xs
counted xs (suc c) = not (eqb (get_or xs c 0) 0) && all_below 1 (drop (suc c) xs)

nil_from : (c : ℕ) (xs : List ℕ) → all_below 1 (drop c xs) ≡ true → (i : ℕ) → c ≤ i → get_or xs i 0 ≡ 0
nil_from c xs t i h =
    let d : c + (i - c) ≡ i = omega arith in
    let z : get_or xs (c + (i - c)) 0 < 1 = subst (λ (x : ℕ). x < 1) (get_or-drop c xs (i - c) 0) (within_from 1 (drop c xs) (lit< tt) t (i - c)) in
    ap (λ k. get_or xs k 0) (sym d) ∙ omega arith

not_nil : (x : ℕ) (b : Bool) → eqb x 0 ≡ b → not b ≡ true → x ≢ 0
not_nil x true e h z = let o : ◌≡◌ {A = ℕ} 0 1 = cc in omega arith
not_nil x false e h z = let o : true ≡ false = sym (eq-eqb x 0 z) ∙ e in let p : ◌≡◌ {A = ℕ} 0 1 = cc in omega arith

pub counts : (xs : List ℕ) (c : ℕ) → counted xs c ≡ true → Counts xs c
counts xs zero t = record { rest = nil_from 0 xs t; top = λ i e z. omega arith }
counts xs (suc c) t =
    let p = and_parts (not (eqb (get_or xs c 0) 0)) (all_below 1 (drop (suc c) xs)) t in
    record { rest = nil_from (suc c) xs p.1; top = λ i e. let same : c ≡ i = omega arith in subst (λ k. get_or xs k 0 ≢ 0) same (not_nil _ _ refl p.0) }

-- whether (a, b) is a pair of symbols that solves the congruence, with these counts
abbrev pub passes : Meaning → ℕ → List ℕ → List ℕ → List ℕ → ℕ → ℕ → Bool
passes f n g a b ca cb =
    all_below f.q a && (all_below f.q b && (counted a ca && (counted b cb && every n (λ j. eqb (get_or a j 0) (coefficient f j b g)))))

module _ (f : Meaning) (laws : Laws f) (n : ℕ) (r : ℤ) (g : List ℕ) where
  record Fits (a b : List ℕ) (ca cb : ℕ) : Type 0 where
    left_in : Within f.q a
    right_in : Within f.q b
    left_counted : Counts a ca
    right_counted : Counts b cb
    solves : Congruent f n g a b

  fits : (a b : List ℕ) (ca cb : ℕ) → passes f n g a b ca cb ≡ true → Fits a b ca cb
  fits a b ca cb t =
      let s = and_parts (all_below f.q a) _ t in
      let s' = and_parts (all_below f.q b) _ s.1 in
      let k = and_parts (counted a ca) _ s'.1 in
      let k' = and_parts (counted b cb) _ k.1 in
      record {
        left_in = within_from f.q a (omega (arith, laws.q_low)) s.0;
        right_in = within_from f.q b (omega (arith, laws.q_low)) s'.0;
        left_counted = counts a ca k.0;
        right_counted = counts b cb k'.0;
        solves = λ j h. eqb-true _ _ (every_at (λ j. eqb (get_or a j 0) (coefficient f j b g)) n k'.1 j h);
      }

  solution : (a b : List ℕ) (ca cb : ℕ) → Fits a b ca cb → (lead : Term) → Leads r a b lead → Solution f n g a b
  solution a b ca cb t lead d = record { left_symbols = λ i _. t.left_in i; right_symbols = λ i _. t.right_in i; some = (lead, d.there); solves = t.solves }

  module _ (l m : ℕ) (e : pos l ≡ r +ℤ pos m) (hg : all_below f.q g ≡ true) where
    g_in : Within f.q g
    g_in = within_from f.q g (omega (arith, laws.q_low)) hg

    leads_left : (a b : List ℕ) (p cb : ℕ) → Counts a (suc p) → Counts b cb → cb + l ≤ p + m → Leads r a b (left p)
    leads_left a b p cb ca cbs low = record { there = ca.top p refl; above = up }
      where
        up : (s : Term) → Lower r (left p) s → at a b s ≡ 0
        up (left i) h = ca.rest i (omega arith)
        up (right j) h = let k = le_out r l m e p j h in cbs.rest j (omega arith)

    leads_right : (a b : List ℕ) (q ca : ℕ) → Counts a ca → Counts b (suc q) → ca + m ≤ suc (q + l) → Leads r a b (right q)
    leads_right a b q ca cas cb low = record { there = cb.top q refl; above = up }
      where
        up : (s : Term) → Lower r (right q) s → at a b s ≡ 0
        up (left i) h = let k = lt_out r l m e q i h in cas.rest i (omega arith)
        up (right j) h = cb.rest j (omega arith)

    -- (a, b) leads on the left at p, and (u, v) on the right at q
    module _ (a b u v : List ℕ) (p q cb cu : ℕ) (size : p + q ≡ n) (ta : passes f n g a b (suc p) cb ≡ true) (tu : passes f n g u v cu (suc q) ≡ true)
        (high-left : cb + l ≤ p + m) (high-right : cu + m ≤ suc (q + l)) where
      s : Fits a b (suc p) cb
      s = fits a b (suc p) cb ta

      t : Fits u v cu (suc q)
      t = fits u v cu (suc q) tu

      ab : Leads r a b (left p)
      ab = leads_left a b p cb s.left_counted s.right_counted high-left

      uv : Leads r u v (right q)
      uv = leads_right u v q cu t.left_counted t.right_counted high-right

      two : Basis (lift f laws) l m n (poly f laws g) (poly f laws a) (poly f laws b) (poly f laws u) (poly f laws v) p q
      two = record {
        size = size;
        inl = in_of f laws n g a b g_in s.right_in s.solves;
        inr = in_of f laws n g u v g_in t.right_in t.solves;
        left = left_of f laws r l m e a b p s.left_in ab;
        right = right_of f laws r l m e u v q t.right_in uv;
      }

      pub least_left : p + m ≤ q + l → get_or a p 0 ≡ 1 → Least f n r g a b (left p)
      least_left low monic = record { solution = solution a b _ _ s (left p) ab; leads = ab; monic = monic; least = left_lowest f laws r l m e n g g_in _ _ _ _ p q two low }

      pub least_right : q + l < p + m → get_or v q 0 ≡ 1 → Least f n r g u v (right q)
      least_right low monic = record { solution = solution u v _ _ t (right q) uv; leads = uv; monic = monic; least = right_lowest f laws r l m e n g g_in _ _ _ _ p q two low }
