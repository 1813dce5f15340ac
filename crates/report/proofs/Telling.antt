-- The changes below a position, as a loop finds them.
use Rattle.std.proofs.Common.{◌≡◌, ℕ, zero, suc, ◌+◌, ◌<◌, ◌≤◌, Bool, true, false, cond, not, ◌&&◌, ◌≢◌, eqb, leb, List, [], ◌∷◌, ◌++◌, map, length, get_or, sym, ap, ◌∙◌, ap₂, subst, ⊎_elim, add-one, arith, length-append, eq-eqb, ne_eqb, le-leb}
use borrow.Author.Tests.{lt-leb}
use Rattle.std.proofs.Math.Bool.{and-false}
use Rattle.std.specs.List.{zip, enumerate_from}
use Rattle.std.proofs.lemmas.List.{append-nil, map_push, get_or_read}
use Rattle.std.proofs.lemmas.List.FromFn.{length-enumerate_from, get_or-enumerate_from}
use Rattle.std.proofs.lemmas.Slice.Zip.{length-zip, get_or-zip}
use Rattle.std.proofs.lemmas.Bool.{cases_lt}
use Rattle.code.specs.Distance.{differ}
use Rattle.report.specs.Written.{Report}
use Rattle.report.specs.Changes.{which, changes, reportable}

-- what is told before position i
abbrev pub so_far : List ℕ → List ℕ → ℕ → Report
so_far w v i = record { met = 0; places = which i (differ v w); former = map (λ k. get_or w k 0) (which i (differ v w)) }

which_hit : (p : ℕ → Bool) (i : ℕ) → p i ≡ true → which (i + 1) p ≡ which i p ++ (i ∷ [])
which_hit p i e = ap (λ n. which n p) (add-one i) ∙ ap (λ b. which i p ++ cond b (i ∷ []) []) e

which_miss : (p : ℕ → Bool) (i : ℕ) → p i ≡ false → which (i + 1) p ≡ which i p
which_miss p i e = ap (λ n. which n p) (add-one i) ∙ ap (λ b. which i p ++ cond b (i ∷ []) []) e ∙ append-nil (which i p)

-- a report with one more change
abbrev pub added : Report → ℕ → ℕ → Report
added r position former = record { met = r.met; places = r.places ++ (position ∷ []); former = r.former ++ (former ∷ []) }

-- one more position, with a change or without
told_hit : (w v : List ℕ) (i : ℕ) → differ v w i ≡ true → added (so_far w v i) i (get_or w i 0) ≡ so_far w v (i + 1)
told_hit w v i e =
    sym (ap (λ (ps : List ℕ). record { met = 0; places = ps; former = map (λ k. get_or w k 0) ps }) (which_hit (differ v w) i e)
    ∙ ap (λ (fs : List ℕ). record { met = 0; places = which i (differ v w) ++ (i ∷ []); former = fs }) (map_push (λ k. get_or w k 0) (which i (differ v w)) i))

told_miss : (w v : List ℕ) (i : ℕ) → differ v w i ≡ false → so_far w v i ≡ so_far w v (i + 1)
told_miss w v i e = sym (ap (λ (ps : List ℕ). record { met = 0; places = ps; former = map (λ k. get_or w k 0) ps }) (which_miss (differ v w) i e))

-- what the loop over both words meets in its turn i: the position, the former symbol and the symbol now
pub record Turn (w v : List ℕ) (i position former now : ℕ) : Type 0 where
  pub within : i < length w
  pub at : position ≡ i
  pub was : former ≡ get_or w i 0
  pub is : now ≡ get_or v i 0

pub turn : (w v : List ℕ) (i : ℕ) (x : ℕ × (ℕ × ℕ)) → length v ≡ length w → i < length (enumerate_from 0 (zip w v)) → x ≡ get_or (enumerate_from 0 (zip w v)) i x → Turn w v i x.0 x.1.0 x.1.1
turn w v i x long lt e =
    let short : i < length (zip w v) = subst (λ n. i < n) (length-enumerate_from 0 (zip w v)) lt in
    let within : i < length w = omega (arith, short, length-zip w v) in
    let pair : x ≡ (0 + i, (get_or w i x.1.0, get_or v i x.1.1)) =
    e ∙ get_or-enumerate_from 0 (zip w v) i x short ∙ ap (λ (p : ℕ × ℕ). (0 + i, p)) (get_or-zip w v i x.1 within (omega arith)) in
    let from : 0 + i ≡ i = omega arith in
    record {
      within = within;
      at = ap (λ (p : ℕ × (ℕ × ℕ)). p.0) pair ∙ from;
      was = get_or_read w i x.1.0 within (ap (λ (p : ℕ × (ℕ × ℕ)). p.1.0) pair) 0;
      is = get_or_read v i x.1.1 (omega arith) (ap (λ (p : ℕ × (ℕ × ℕ)). p.1.1) pair) 0;
    }

-- how many turns there are
pub turns : (w v : List ℕ) → length v ≡ length w → length (enumerate_from 0 (zip w v)) ≡ length w
turns w v long = omega (arith, length-enumerate_from 0 (zip w v), length-zip w v)

module _ (w v : List ℕ) (i position former now : ℕ) (t : Turn w v i position former now) where
  differs : former ≢ now → differ v w i ≡ true
  differs ne = ap not (ne_eqb _ _ (λ e. ne (t.was ∙ sym e ∙ sym t.is)))

  pub told_more : former ≢ now → added (so_far w v i) position former ≡ so_far w v (i + 1)
  told_more ne = ap₂ (λ (p f : ℕ). added (so_far w v i) p f) t.at t.was ∙ told_hit w v i (differs ne)

  pub told_same : former ≡ now → so_far w v i ≡ so_far w v (i + 1)
  told_same e = told_miss w v i (ap not (eq-eqb _ _ (sym t.is ∙ sym e ∙ t.was)))

which_grows : (p : ℕ → Bool) (i n : ℕ) → i ≤ n → length (which i p) ≤ length (which n p)
which_grows p i zero h = let e : i ≡ 0 = omega arith in omega (arith, ap (λ k. length (which k p)) e)
which_grows p i (suc n) h =
    ⊎_elim
    (λ lt. let a = which_grows p i n (omega arith) in let b = length-append (which n p) (cond (p n) (n ∷ []) []) in omega arith)
    (λ ge. let e : i ≡ suc n = omega arith in omega (arith, ap (λ k. length (which k p)) e))
    (cases_lt i (suc n))

-- a change with no room left is one too many
pub too_many : (w v : List ℕ) (i position former now : ℕ) → Turn w v i position former now → former ≢ now → 512 ≤ length (so_far w v i).places → reportable w v ≡ false
too_many w v i position former now t ne full =
    let more : length (which (i + 1) (differ v w)) ≡ length (which i (differ v w)) + 1 = ap length (which_hit (differ v w) i (differs w v i position former now t ne)) ∙ length-append (which i (differ v w)) (i ∷ []) in
    let within = t.within in
    let all = which_grows (differ v w) (i + 1) (length w) (omega arith) in
    ap (λ b. (eqb (length v) (length w) && leb (length w) 928) && b) (lt-leb (length (changes w v)) 512 (omega arith)) ∙ and-false _

pub few : (w v : List ℕ) → length v ≡ length w → length w ≤ 928 → length (changes w v) ≤ 512 → true ≡ reportable w v
few w v e n c = sym (ap₂ (λ (a b : Bool). (a && b) && leb (length (changes w v)) 512) (eq-eqb _ _ e) (le-leb _ 928 n) ∙ le-leb _ 512 c)
