-- What the plain bay's correction means.
use Rattle.std.proofs.Common.{◌≡◌, ℕ, ◌≤◌, Bool, true, false, ◌&&◌, List, replicate, Some, Ok, Err, Option, Result, sym, ap, ◌∙◌, subst, ⊎_elim, arith}
use Rattle.std.proofs.lemmas.Bool.{and_parts, and_from, false_from_ne_true}
use Rattle.field.specs.Meaning.{Meaning, Laws}
use Rattle.code.specs.Shape.{Shape}
use Rattle.code.specs.Words.{Word, codeword, in_reach, marked}
use Rattle.code.specs.Sought.{sought}
use Rattle.code.proofs.Finding.{finds_none, finds_passing, finds_only, either}
use Rattle.code.proofs.Decided.{codeword_is, is_codeword, reach_is, is_reach}
use Rattle.code.proofs.Distance.{one_in_reach}
use Rattle.corrector.specs.Corrected.{Corrected, fitting_erased}
use Rattle.report.specs.Written.{refused, done}
use Rattle.report.specs.Changes.{reported}
use Rattle.bay.specs.Plain.{Plain, given, holding, correcting}
use Rattle.bay.specs.Means.{IsInReach, Refuses, Corrects}

abbrev Out : Type 0
Out = Result (Unit {0}) ℕ × Plain

-- the same, of equal erasures and an equal word
pub moved : (f : Meaning) (c : Shape) {x y : List Bool} {v w u : List ℕ} {a : Result (Unit {0}) ℕ} → x ≡ y → v ≡ w → Corrected f c x v a u → Corrected f c y w a u
moved f c {x} {y} {v} {w} {u} {a} e h r =
    let P : List Bool → Type 0 = λ z. Corrected f c z v a u in
    let Q : List ℕ → Type 0 = λ z. Corrected f c y z a u in
    subst Q h (subst P e r)

module _ (f : Meaning) (p : Plain) where
  -- the bay once its word is v
  abbrev pub corrected : Shape → List ℕ → Plain
  corrected c v = holding p v (replicate c.n false) (reported (marked c p.marks) p.word v)

  abbrev near : Shape → List ℕ → Bool
  near c v = codeword f c v && in_reach c p.marks p.word v

  abbrev then : Shape → Option (List ℕ) → Out
  then c o = given o (refused 12 p) (λ v. done (corrected c v))

  under : (c : Shape) → p.code ≡ Some c → correcting f p ≡ then c (sought f.q c.n (near c))
  under c e = ap (λ (o : Option Shape). given {X = Out} o (refused 5 p) (λ d. then d (sought f.q d.n (near d)))) e

  passes : (c : Shape) (v : List ℕ) → IsInReach f c p v → near c v ≡ true
  passes c v h = and_from _ _ (is_codeword f c v h.codeword) (is_reach c p.marks p.word v h.reach)

  is_near : (c : Shape) (v : List ℕ) → Word f.q c.n v → near c v ≡ true → IsInReach f c p v
  is_near c v w t =
      let r = and_parts (codeword f c v) (in_reach c p.marks p.word v) t in
      record { word = w; codeword = codeword_is f c v r.0; reach = reach_is c p.marks p.word v r.1 }

  refuses : Refuses f p (correcting f p).0
  refuses c e =
      ⊎_elim
      (λ none.
      let is : (correcting f p).0 ≡ Err 12 = ap (λ (o : Out). o.0) (under c e ∙ ap (then c) none) in (
        (λ _ v h. let x : false ≡ true = sym ((finds_none f.q c.n (near c)).0 none v h.word) ∙ passes c v h in let z : ◌≡◌ {A = ℕ} 0 1 = cc in omega arith),
        (λ _. is),
      ))
      (λ found.
      let is : (correcting f p).0 ≡ Ok tt = ap (λ (o : Out). o.0) (under c e ∙ ap (then c) found.1) in
      let r = finds_passing f.q c.n (near c) found.0 found.1 in (
        (λ a v h. let z : ◌≡◌ {A = ℕ} 0 1 = cc in omega arith),
        (λ all. absurd (all found.0 (is_near c found.0 r.0 r.1))),
      ))
      (either (sought f.q c.n (near c)))

  corrects : ((c : Shape) → p.code ≡ Some c → (u v : List ℕ) → IsInReach f c p u → IsInReach f c p v → u ≡ v) → Corrects f p (correcting f p).0 (correcting f p).1
  corrects alone c e a =
      ⊎_elim
      (λ none.
      let is : (correcting f p).0 ≡ Err 12 = ap (λ (o : Out). o.0) (under c e ∙ ap (then c) none) in
      let z : ◌≡◌ {A = ℕ} 0 1 = cc in absurd (omega arith))
      (λ found.
      let is : (correcting f p).1.word ≡ found.0 = ap (λ (o : Out). o.1.word) (under c e ∙ ap (then c) found.1) in
      let r = finds_passing f.q c.n (near c) found.0 found.1 in
      let n = is_near c found.0 r.0 r.1 in
      (subst (IsInReach f c p) (sym is) n, λ v h. alone c e v found.0 h n ∙ sym is))
      (either (sought f.q c.n (near c)))

  -- both statements, of what answers as the plain bay does
  pub both : Laws f → ((c : Shape) → p.code ≡ Some c → c.n ≤ f.m) → (a : Result (Unit {0}) ℕ) (after : Plain) → (a, after) ≡ correcting f p
      → Refuses f p a × Corrects f p a after
  both l within a after e =
      let P : Out → Type 0 = λ o. Refuses f p o.0 × Corrects f p o.0 o.1 in
      subst P (sym e) (refuses, corrects (λ c h u v. one_in_reach f l c (within c h) p.marks p.word u v))

  module _ (c : Shape) (e : p.code ≡ Some c) where
    -- the one codeword in reach is the one that is sought
    pub finds_it : (v : List ℕ) → IsInReach f c p v → ((u : List ℕ) → IsInReach f c p u → u ≡ v) → correcting f p ≡ done (corrected c v)
    finds_it v h only = under c e ∙ ap (then c) (finds_only f.q c.n (near c) v h.word (passes c v h) (λ u w t. only u (is_near c u w t)))

    -- and where none is in reach, none is found
    pub finds_nothing : ((u : List ℕ) → IsInReach f c p u → ⊥) → correcting f p ≡ refused 12 p
    finds_nothing none = under c e ∙ ap (then c) ((finds_none f.q c.n (near c)).1 (λ u w. false_from_ne_true (near c u) (λ t. none u (is_near c u w t))))

  module _ (c : Shape) (e : p.code ≡ Some c) (a : Result (Unit {0}) ℕ) (v : List ℕ) (r : Corrected f c p.marks p.word a v) where
    -- for the code: the codeword that was found is the one that is sought
    pub is_corrected : a ≡ Ok tt → done (corrected c v) ≡ correcting f p
    is_corrected o = sym (finds_it c e v (r.near o) (r.only o))

    -- and where it refuses, there is none
    pub is_refused : fitting_erased f c p.marks p.word ≡ Ok tt → (k : ℕ) → a ≡ Err k → refused k p ≡ correcting f p
    is_refused fit k turned =
        ⊎_elim
        (λ yep. let z : ◌≡◌ {A = ℕ} 0 1 = cc in absurd (omega arith))
        (λ twelve.
        let same : k ≡ 12 = let b : Err k ≡ Err 12 = sym turned ∙ twelve in cc in
        ap (λ (j : ℕ). refused j p) same ∙ sym (finds_nothing c e (r.none twelve)))
        (r.answers fit)
