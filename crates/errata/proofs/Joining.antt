-- From the least pair to the decision.
use Rattle.std.proofs.Common.{◌≡◌, ℕ, zero, suc, ◌+◌, ◌*◌, ◌<◌, ◌≤◌, Bool, true, false, cond, not, ◌&&◌, ◌||◌, eqb, List, get_or, ℤ, sym, refl, ap, ◌∙◌, ⊎_elim, arith, ext_get_or}
use Rattle.std.proofs.lemmas.Bool.{eqb-true, eq-eqb, cases_Bool}
use Rattle.field.specs.Meaning.{Meaning, Laws}
use Rattle.code.specs.Shape.{Shape}
use Rattle.code.specs.Words.{count, marked, Word, InReach, Near}
use Rattle.solver.specs.Pairs.{Term}
use Rattle.errata.specs.Pieces.{root, located, places_of, among, mended}
use Rattle.errata.specs.Pinned.{Pinned, Sighted}
use Rattle.errata.specs.Joined.{shown, Tried, Joined}
use Rattle.errata.proofs.Lifting.{among_passing}
use Rattle.errata.proofs.Pinning.{pins, no_both}

pub count_le : (n : ℕ) (p p' : ℕ → Bool) → ((i : ℕ) → i < n → p i ≡ true → p' i ≡ true) → count n p ≤ count n p'
count_le zero p p' h = omega arith
count_le (suc n) p p' h = let a = count_le n p p' (λ i w. h i (omega arith)) in let b = go (p n) (p' n) (h n (omega arith)) in omega arith
  where
    go : (a b : Bool) → (a ≡ true → b ≡ true) → cond a 1 0 ≤ cond b 1 0
    go true true k = omega arith
    go true false k = absurd (no_both false (k refl) refl)
    go false b k = omega arith

-- an unmarked position: what is shown is what differs
seen : (a b d : Bool) → (a ≡ false → b ≡ d) → (not a && b) ≡ true → (not a && d) ≡ true
seen true b d h e = e
seen false b d h e = sym (h refl) ∙ e

apart : (a b d : Bool) → (d ≡ false → (a || b) ≡ true) → (not a && not d) ≡ true → (not a && b) ≡ true
apart true b d h e = e
apart false b true h e = absurd (no_both false e refl)
apart false b false h e = h refl

-- the tests pass where a codeword is in reach, and it is what is tried
abbrev Joins : Type 0
Joins = (f : Meaning) → Laws f → (c : Shape) → c.n ≤ f.m → (marks : List Bool) (w : List ℕ) → Word f.q c.n w
    → (g A B : List ℕ) (r : ℤ) (lead : Term) → Sighted f c marks w g A B r lead
    → (v : List ℕ) → Near f c marks w v → Joined f c marks w A B v

pub joins : Joins
joins f l c cn marks w ww g A B r lead s v near = record {
  few = let h = count_le c.n (λ i. not (get_or marks i false) && root f B i) (λ i. not (get_or marks i false) && not (eqb (get_or v i 0) (get_or w i 0)))
      (λ i k. seen (get_or marks i false) (root f B i) _ (pin.roots i k)) in
      omega (arith, near.reach);
  divides = λ k h on. pin.divides k h (sym (named k h) ∙ on);
  only = λ u t. ext_get_or 0 v u (near.word.long ∙ sym t.word.long) (λ i h.
      let k : i < c.n = let e = near.word.long in omega arith in
      sym (t.symbols i k ∙ ⊎_elim
      (λ on. ap (λ (b : Bool). cond b (mended f c A B (places_of f c marks B) w i) (get_or w i 0)) (named i k ∙ on) ∙ pin.mends i k on)
      (λ off. ap (λ (b : Bool). cond b (mended f c A B (places_of f c marks B) w i) (get_or w i 0)) (named i k ∙ off) ∙ sym (same i k off))
      (cases_Bool (located f marks B i))));
}
  where
    pin : Pinned f c marks w v A B lead
    pin = pins f l c cn marks w v ww near g A B r lead s

    named : (k : ℕ) → k < c.n → among (places_of f c marks B) k ≡ located f marks B k
    named = among_passing (located f marks B) c.n

    both : (a b d : Bool) → (a ≡ false → b ≡ not d) → (a || b) ≡ false → d ≡ true
    both true b d h e = absurd (no_both true refl e)
    both false b true h e = refl
    both false b false h e = absurd (no_both b (h refl) e)

    same : (i : ℕ) → i < c.n → located f marks B i ≡ false → get_or v i 0 ≡ get_or w i 0
    same i k e = eqb-true _ _ (both (get_or marks i false) (root f B i) (eqb (get_or v i 0) (get_or w i 0)) (pin.roots i k) e)

-- and what is tried is in reach
abbrev Reaches : Type 0
Reaches = (f : Meaning) (c : Shape) (marks : List Bool) (w A B u : List ℕ)
    → Tried f c A B (places_of f c marks B) w u → 2 * shown f c marks B + marked c marks ≤ c.checks → InReach c marks w u

pub reaches : Reaches
reaches f c marks w A B u t few =
    let h = count_le c.n (λ i. not (get_or marks i false) && not (eqb (get_or u i 0) (get_or w i 0))) (λ i. not (get_or marks i false) && root f B i)
    (λ i k. apart (get_or marks i false) (root f B i) (eqb (get_or u i 0) (get_or w i 0)) (on i k)) in
    omega (arith, few)
  where
    on : (i : ℕ) → i < c.n → eqb (get_or u i 0) (get_or w i 0) ≡ false → located f marks B i ≡ true
    on i k ne =
        ⊎_elim (λ y. y)
        (λ off. absurd (no_both _ (eq-eqb _ _ (t.symbols i k ∙ ap (λ (b : Bool). cond b (mended f c A B (places_of f c marks B) w i) (get_or w i 0)) (among_passing (located f marks B) c.n i k ∙ off))) ne)) (cases_Bool (located f marks B i))
