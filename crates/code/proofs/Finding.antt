-- What seeking finds.
use Rattle.std.proofs.Common.{◌≡◌, ℕ, zero, suc, ◌<◌, Bool, true, false, cond, ltb, ◌⊎◌, List, [], ◌∷◌, length, Some, None, Option, sym, refl, ap, ◌∙◌, subst, inl, inr, ⊎_elim, arith, ltb-true, lt-ltb}
use Rattle.std.proofs.lemmas.Bool.{and_parts, and_from, cases_lt}
use Rattle.field.specs.Symbols.{all_below}
use Rattle.code.specs.Words.{Word, or_else, first_of}
use Rattle.code.specs.Sought.{after, sought, FindsNone, FindsPassing, FindsOnly}

pub either : {X : Type 0} (o : Option X) → (o ≡ None) ⊎ ((x : X) × (o ≡ Some x))
either None = inl refl
either (Some x) = inr (x, refl)

never : {X : Type 0} {x : X} (o : Option X) → o ≡ None → o ≡ Some x → ⊥
never o p q = let z : ◌≡◌ {A = ℕ} 0 1 = cc in omega arith

or_none : {X : Type 0} (a b : Option X) → or_else a b ≡ None → (a ≡ None) × (b ≡ None)
or_none None b e = (refl, e)
or_none (Some x) b e = absurd (never (Some x) e refl)

or_some : {X : Type 0} (a b : Option X) (w : X) → or_else a b ≡ Some w → (a ≡ Some w) ⊎ (b ≡ Some w)
or_some None b w e = inr e
or_some (Some x) b w e = inl e

after_none : (x : ℕ) (o : Option (List ℕ)) → after x o ≡ None → o ≡ None
after_none x None e = refl
after_none x (Some w) e = absurd (never (Some (x ∷ w)) e refl)

after_some : (x : ℕ) (o : Option (List ℕ)) (w : List ℕ) → after x o ≡ Some w → (v : List ℕ) × ((o ≡ Some v) × ((x ∷ v) ≡ w))
after_some x None w e = absurd (never None refl e)
after_some x (Some v) w e = (v, (refl, cc))

module _ {X : Type 0} (g : ℕ → Option X) where
  pub first_none : (k : ℕ) → first_of k g ≡ None → (x : ℕ) → x < k → g x ≡ None
  unfolding first_of
  first_none zero e x h = absurd (omega arith)
  first_none (suc k) e x h =
      let p = or_none (first_of k g) (g k) e in
      ⊎_elim (λ lt. first_none k p.0 x lt) (λ ge. let same : x ≡ k = omega arith in ap g same ∙ p.1) (cases_lt x k)

  pub none_first : (k : ℕ) → ((x : ℕ) → x < k → g x ≡ None) → first_of k g ≡ None
  unfolding first_of
  none_first zero all = refl
  none_first (suc k) all =
      ap (λ (o : Option X). or_else o (g k)) (none_first k (λ x h. all x (omega arith))) ∙ all k (omega arith)

  first_some : (k : ℕ) (w : X) → first_of k g ≡ Some w → (x : ℕ) × ((x < k) × (g x ≡ Some w))
  unfolding first_of
  first_some zero w e = absurd (never None refl e)
  first_some (suc k) w e =
      ⊎_elim (λ early. let r = first_some k w early in let h : r.0 < k = r.1.0 in (r.0, (omega arith, r.1.1)))
      (λ here. (k, (omega arith, here))) (or_some (first_of k g) (g k) w e)

head : (q n x : ℕ) (w : List ℕ) → Word q (suc n) (x ∷ w) → (x < q) × Word q n w
head q n x w h =
    let p = and_parts (ltb x q) (all_below q w) h.symbols in
    let l : length w ≡ n = let e : suc (length w) ≡ suc n = h.long in omega arith in
    (ltb-true x q p.0, record { long = l; symbols = p.1 })

empty_missed : (b : Bool) → ◌≡◌ {A = Option (List ℕ)} (cond b (Some []) None) None → b ≡ false
empty_missed true e = absurd (never (Some []) e refl)
empty_missed false e = refl

no_word : (q n : ℕ) (test : List ℕ → Bool) → sought q n test ≡ None → (w : List ℕ) → Word q n w → test w ≡ false
unfolding sought
no_word q zero test e [] h = empty_missed (test []) e
no_word q zero test e (x ∷ w) h = let l : suc (length w) ≡ 0 = h.long in absurd (omega arith)
no_word q (suc n) test e [] h = let l : 0 ≡ suc n = h.long in absurd (omega arith)
no_word q (suc n) test e (x ∷ w) h =
    let p = head q n x w h in
    no_word q n (λ v. test (x ∷ v)) (after_none x _ (first_none (λ y. after y (sought q n (λ v. test (y ∷ v)))) q e x p.0)) w p.1

none_sought : (q n : ℕ) (test : List ℕ → Bool) → ((w : List ℕ) → Word q n w → test w ≡ false) → sought q n test ≡ None
unfolding sought
none_sought q zero test all = ap (λ (b : Bool). cond {A = Option (List ℕ)} b (Some []) None) (all [] (record { long = refl; symbols = refl }))
none_sought q (suc n) test all =
    none_first (λ y. after y (sought q n (λ v. test (y ∷ v)))) q
    (λ x h. ap (after x) (none_sought q n (λ v. test (x ∷ v))
    (λ w k. all (x ∷ w) (record { long = ap suc k.long; symbols = and_from (ltb x q) (all_below q w) (lt-ltb x q h) k.symbols }))))

pub finds_none : FindsNone
finds_none q n test = (no_word q n test, none_sought q n test)

empty_found : (b : Bool) (w : List ℕ) → ◌≡◌ {A = Option (List ℕ)} (cond b (Some []) None) (Some w) → ([] ≡ w) × (b ≡ true)
empty_found true w e = (cc, refl)
empty_found false w e = absurd (never None refl e)

pub finds_passing : FindsPassing
unfolding sought
finds_passing q zero test w e =
    let p = empty_found (test []) w e in
    subst (λ (v : List ℕ). Word q 0 v × (test v ≡ true)) p.0 (record { long = refl; symbols = refl }, p.1)
finds_passing q (suc n) test w e =
    let r = first_some (λ y. after y (sought q n (λ v. test (y ∷ v)))) q w e in
    let x = r.0 in
    let a = after_some x _ w r.1.1 in
    let p = finds_passing q n (λ v. test (x ∷ v)) a.0 a.1.0 in
    subst (λ (v : List ℕ). Word q (suc n) v × (test v ≡ true)) a.1.1
    (record { long = ap suc p.0.long; symbols = and_from (ltb x q) (all_below q a.0) (lt-ltb x q r.1.0) p.0.symbols }, p.1)

pub finds_only : FindsOnly
finds_only q n test w h t alone =
    ⊎_elim
    (λ none. let no : test w ≡ false = no_word q n test none w h in let z : ◌≡◌ {A = Bool} true false = sym t ∙ no in let y : ◌≡◌ {A = ℕ} 0 1 = cc in absurd (omega arith))
    (λ found. let p = finds_passing q n test found.0 found.1 in found.1 ∙ ap Some (alone found.0 p.0 p.1))
    (either (sought q n test))
