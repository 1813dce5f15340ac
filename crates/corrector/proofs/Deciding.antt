-- The decision, from what the parts promise.
use Rattle.std.proofs.Common.{◌≡◌, ℕ, zero, suc, ◌+◌, ◌-◌, ◌*◌, ◌<◌, ◌≤◌, Bool, true, false, cond, not, ◌&&◌, eqb, List, length, get_or, take, ℤ, pos, negsuc, ◌+ℤ◌, ◌≤ℤ◌, Some, None, Ok, Err, Option, Result, is_ok, sym, refl, ap, ◌∙◌, subst, ap₂, inl, inr, arith, length-take, get_or-take}
use native.Mathlib.Decide.{dec_lt, dec_le}
use Rattle.std.proofs.lemmas.List.{get_or_past}
use Rattle.std.proofs.lemmas.Bool.{cases_lt, eq-eqb}
use Rattle.field.specs.Meaning.{Meaning, Laws}
use Rattle.field.specs.Symbols.{Within, all_below}
use Rattle.field.proofs.Symbols.{below_from, symbol_at}
use Rattle.field.proofs.Lifting.{value_in}
use Rattle.code.specs.Shape.{Shape}
use Rattle.code.specs.Words.{Word, Codeword, Near, count, marked, check_sum}
use Rattle.code.proofs.Distance.{one_in_reach}
use Rattle.solver.specs.Pairs.{Least}
use Rattle.solver.specs.Answer.{Answered, Counts, Solved, refusal_of}
use Rattle.code.specs.Refusals.{number}
use Rattle.code.specs.declared.Refusal.{Refusal}
use Rattle.solver.specs.declared.Side.{Side}
use Rattle.solver.proofs.Refusing.{accepts}
use Rattle.solver.proofs.Ending.{within}
use Rattle.errata.specs.Pieces.{modified}
use Rattle.errata.specs.Pinned.{Sighted}
use Rattle.errata.specs.Joined.{Joined}
use Rattle.errata.proofs.Reading.{least_same}
use Rattle.errata.proofs.Lifting.{modified_in}
use Rattle.errata.proofs.Joining.{joins, reaches}
use Rattle.errata.proofs.Pinning.{no_both}
use Rattle.corrector.specs.RowSteps.{Modified, Syndromes}
use Rattle.corrector.specs.MendSteps.{Placed, Mended}
use Rattle.corrector.proofs.RowTurns.{modified_cong}
use Rattle.corrector.specs.SearchSteps.{Modifies, Attempted, Repaired, Found}

-- a pair that shows too many errors, and one that is mended by
module _ (f : Meaning) (c : Shape) (erased : List Bool) (A B w ps : List ℕ) (errors s : ℕ) (s_is : s ≡ marked c erased) (placed : Placed f erased B c.n ps errors) where
  pub many : (u : List ℕ) → c.checks < 2 * errors + s → Attempted f c erased A B w false u
  many u h = record {
    tried = λ e. absurd (no_both false e refl);
    few = λ e. absurd (no_both false e refl);
    none = λ _ v j. let k = j.few in let e = placed.number in omega arith;
  }

  pub mended_by : (u : List ℕ) (done : Bool) → 2 * errors + s ≤ c.checks → Mended f c A B ps w done u → Attempted f c erased A B w done u
  mended_by u done h m =
      let m' = subst (λ xs. Mended f c A B xs w done u) placed.is m in
      record {
        tried = m'.tried;
        few = λ _. let e = placed.number in omega arith;
        none = λ z v j. let k = m'.stuck z in j.divides k.0 k.1 k.2 k.3;
      }

-- what solve answers where nothing refuses it
module _ (f : Meaning) (g : List ℕ) (n : ℕ) (r : ℤ) (xs ys xs' ys' : List ℕ) where
  pub answered_ok : (a : Result (ℕ × ℕ × Side) Refusal) → Answered f g n r xs ys xs' ys' a → ((k : ℕ) → refusal_of f.q g n r (length xs) (length ys) ≡ Some k → ⊥) → is_ok a ≡ true
  answered_ok (Ok found) h never = refl
  answered_ok (Err e) h never = absurd (never (number e) h.0)

  pub answered_solved : (a : Result (ℕ × ℕ × Side) Refusal) (found : ℕ × ℕ × Side) → Answered f g n r xs ys xs' ys' a → a ≡ Ok found → Solved f g n r xs ys xs' ys' found
  answered_solved a found h e = (subst (λ a. Answered f g n r xs ys xs' ys' a) e h).1

-- a count is at most the length
counts_most : (p : List ℕ) (n : ℕ) → Counts p n → n ≤ length p
counts_most p n k = elim (dec_le n (length p)) [
  | yes h ↦ h
  | no h ↦ absurd (k.top (n - 1) (omega arith) (get_or_past p (n - 1) 0 (omega arith)))
]

pub cut_most : (z n : ℕ) (xs : List ℕ) → Counts (take z xs) n → n ≤ length xs
cut_most z n xs k = let m = counts_most (take z xs) n k in let e = length-take z xs in omega arith

-- a row is the same once it is cut at its count
cut_at : (z n : ℕ) (xs : List ℕ) → Counts (take z xs) n → (i : ℕ) → get_or (take n xs) i 0 ≡ get_or (take z xs) i 0
cut_at z n xs k i = elim (dec_lt i n) [
  | yes h ↦ get_or-take n xs i 0 h ∙ sym (get_or-take z xs i 0 (let m = counts_most (take z xs) n k in let e = length-take z xs in omega arith))
  | no h ↦ get_or_past (take n xs) i 0 (let e = length-take n xs in omega arith) ∙ sym (k.rest i (omega arith))
]

module _ (f : Meaning) (l : Laws f) (c : Shape) (cn : c.n ≤ f.m) (erased : List Bool) (w g : List ℕ) (ww : Word f.q c.n w) (row : Modifies f c erased w g)
    (s : ℕ) (r : ℤ) (s_is : s ≡ marked c erased) (order : pos s ≡ r +ℤ pos 1) where
  -- the least pair, cut at its counts, and what was tried by it
  module _ (n : ℕ) (n_is : n ≡ c.checks) (xs ys xs' ys' : List ℕ) (found : ℕ × ℕ × Side) (at_n : Solved f g n r xs ys xs' ys' found) where
    abbrev a : ℕ
    a = found.0

    abbrev b : ℕ
    b = found.1

    solved : Solved f g c.checks r xs ys xs' ys' found
    solved = subst (λ k. Solved f g k r xs ys xs' ys' found) n_is at_n

    cut : Least f c.checks r g (take a xs') (take b ys') solved.lead
    cut = least_same f l c.checks r g (take (c.checks + 1) xs') (take (c.checks + 1) ys') (take a xs') (take b ys') solved.lead
        (cut_at (c.checks + 1) a xs' solved.left_counted) (cut_at (c.checks + 1) b ys' solved.right_counted) solved.least

    pub left_in : Within f.q (take a xs')
    left_in = within f l (take a xs') cut.solution.left_symbols

    pub right_in : Within f.q (take b ys')
    right_in = within f l (take b ys') cut.solution.right_symbols

    sighted : Sighted f c erased w g (take a xs') (take b ys') r solved.lead
    sighted = record { symbols = λ i _. row.inside i; modifies = row.is; order = ap pos (sym s_is) ∙ order; least = cut }

    know : (v : List ℕ) → Near f c erased w v → Joined f c erased w (take a xs') (take b ys') v
    know = joins f l c cn erased w ww g (take a xs') (take b ys') r solved.lead sighted

    pub repaired : (done : Bool) (u : List ℕ) → Attempted f c erased (take a xs') (take b ys') w done u → Repaired f c erased w done u
    repaired done u t = record {
      word = λ y. (t.tried y).word;
      reach = λ y. reaches f c erased w (take a xs') (take b ys') u (t.tried y) (t.few y);
      only = λ y v n. (know v n).only u (t.tried y);
      none = λ y v n. t.none y v (know v n);
    }

  -- solve does not refuse
  pub not_refused : (n x y k : ℕ) → n ≡ c.checks → c.checks < x → c.checks < y → 0 < c.checks → c.checks ≤ 512 → negsuc 510 ≤ℤ r → r ≤ℤ pos 511 → refusal_of f.q g n r x y ≡ Some k → ⊥
  not_refused n x y k n_is hx hy some few low high e = never k _ (accepts f.q g c.checks r x y (record {
    long = row.long;
    symbols = below_from f.q g (λ i _. row.inside i);
    left_room = hx;
    right_room = hy;
    some = some;
    few = few;
    low = low;
    high = high;
  })) (subst (λ n. refusal_of f.q g n r x y ≡ Some k) n_is e)
    where
      never : (x : ℕ) (o : Option ℕ) → o ≡ None → o ≡ Some x → ⊥
      never x o p q = let z : ◌≡◌ {A = ℕ} 0 1 = cc in omega arith

module _ (f : Meaning) (l : Laws f) (c : Shape) (erased : List Bool) (w : List ℕ) where
  -- the syndromes of a word are all 0 exactly where it is a codeword
  pub all_zero : (u S : List ℕ) → length S ≡ c.checks → Syndromes f c u S → all_below 1 S ≡ true → Codeword f c u
  all_zero u S ls s z j h = let d = symbol_at 1 S j z (omega arith) in sym (s j h) ∙ omega arith

  pub zero_all : (u S : List ℕ) → length S ≡ c.checks → Syndromes f c u S → Codeword f c u → all_below 1 S ≡ true
  zero_all u S ls s code = below_from 1 S (λ j h. rw (s j (omega arith) ∙ code j (omega arith)) (omega arith))

  -- more erasures than checks
  pub too_many : (u : List ℕ) → c.checks < marked c erased → Found f c erased w false u
  too_many u h = record {
    near = λ e. absurd (no_both false e refl);
    only = λ e. absurd (no_both false e refl);
    none = λ _ v n. let k = n.reach in omega arith;
  }

  -- a word that is a codeword itself
  pub clean : c.n ≤ f.m → Word f.q c.n w → marked c erased ≤ c.checks → Codeword f c w → Found f c erased w true w
  clean cn ww h code = record {
    near = λ _. here;
    only = λ _ v n. one_in_reach f l c cn erased w v w n here;
    none = λ e. absurd (no_both true refl e);
  }
    where
      same : (n : ℕ) → count n (λ i. not (get_or erased i false) && not (eqb (get_or w i 0) (get_or w i 0))) ≡ 0
      same zero = refl
      same (suc n) = ap₂ ◌+◌ (same n) (ap (λ (b : Bool). cond b 1 0) (ap (λ b. not (get_or erased n false) && not b) (eq-eqb (get_or w n 0) (get_or w n 0) refl) ∙ and_false _))
        where
          and_false : (b : Bool) → (b && false) ≡ false
          and_false true = refl
          and_false false = refl

      here : Near f c erased w w
      here = record { word = ww; codeword = code; reach = let e = same c.n in omega arith }

  -- syndromes are symbols
  pub syndromes_in : (S : List ℕ) → Within f.q w → length S ≡ c.checks → Syndromes f c w S → Within f.q S
  syndromes_in S hw ls s j = elim (cases_lt j (length S)) [
    | inl h ↦ rw (s j (omega arith)) (value_in f l (length w) w (c.first + j) hw)
    | inr h ↦ rw (get_or_past S j 0 h) (omega (arith, l.q_low))
  ]

  -- the modified syndromes of w
  pub modifies : (S g : List ℕ) → Within f.q w → length S ≡ c.checks → length erased ≡ c.n → Syndromes f c w S → Modified f erased (length erased) S g → Modifies f c erased w g
  modifies S g hw ls le s m = record {
    long = m.long ∙ ls;
    inside = λ j. elim (cases_lt j (length S)) [
      | inl h ↦ rw (is j h) (modified_in f l (λ i. get_or erased i false) (check_sum f c w) (λ i. value_in f l (length w) w (c.first + i) hw) c.n j)
      | inr h ↦ rw (get_or_past g j 0 (let e = m.long in omega arith)) (omega (arith, l.q_low))
    ];
    is = λ j h. is j (omega arith);
  }
    where
      is : (j : ℕ) → j < length S → get_or g j 0 ≡ modified f (λ i. get_or erased i false) (check_sum f c w) c.n j
      is j h = m.is j h ∙ ap (λ n. modified f (λ i. get_or erased i false) (λ i. get_or S i 0) n j) le ∙ modified_cong f (λ i. get_or erased i false) (λ i. get_or S i 0) (check_sum f c w) c.n j (λ i k. s i (omega arith))

  -- what was tried, and whether it is a codeword
  module _ (u : List ℕ) (r : Repaired f c erased w true u) (S : List ℕ) (ls : length S ≡ c.checks) (s : Syndromes f c u S) where
    pub tested : all_below 1 S ≡ true → Found f c erased w true u
    tested z = record {
      near = λ _. record { word = r.word refl; codeword = all_zero u S ls s z; reach = r.reach refl };
      only = λ _. r.only refl;
      none = λ e. absurd (no_both true refl e);
    }

    pub failed : all_below 1 S ≡ false → Found f c erased w false u
    failed z = record {
      near = λ e. absurd (no_both false e refl);
      only = λ e. absurd (no_both false e refl);
      none = λ _ v n. no_both (all_below 1 S) (zero_all u S ls s (subst (Codeword f c) (r.only refl v n) n.codeword)) z;
    }

  pub untried : (u : List ℕ) → Repaired f c erased w false u → Found f c erased w false u
  untried u r = record { near = λ e. absurd (no_both false e refl); only = λ e. absurd (no_both false e refl); none = r.none }
