-- Where no codeword is in reach, correct answers 12.
use Rattle.std.proofs.Common.{◌≡◌, ℕ, suc, ◌+◌, ◌*◌, ◌<◌, ◌≤◌, true, List, length, sym, refl, ◌∙◌, subst, arith}
use Rattle.field.specs.Meaning.{Meaning, Laws}
use Rattle.field.specs.Symbols.{all_below}
use Rattle.code.specs.Shape.{Shape}
use Rattle.code.specs.Words.{codeword, astray, marked, InReach, Near}
use Rattle.code.proofs.Decided.{codeword_is}
use Rattle.code.proofs.Distance.{far, differ_most}
use Rattle.bay.proofs.Correcting.{finds_nothing}
use Rattle.examples.specs.Rows.{marks_at, bay_with, Gave, correct_answers}

module _ (f : Meaning) (c : Shape) (w lost : List ℕ) where
  -- no codeword is in reach of w with these positions marked
  abbrev pub NoneNear : Type 0
  NoneNear = (u : List ℕ) → Near f c (marks_at c.n lost) w u → ⊥

  pub refused_row : NoneNear → Gave f c (bay_with c w lost) (correct_answers 12)
  refused_row none = finds_nothing f (bay_with c w lost) c refl none

  abbrev s : ℕ
  s = marked c (marks_at c.n lost)

  -- there are more marks than checks
  pub too_many : c.checks < s → NoneNear
  too_many many u near = omega (arith, near.reach)

  abbrev e_of : List ℕ → ℕ
  e_of v = astray c (marks_at c.n lost) w v

  -- Reach allows e unmarked positions at most, and v is a codeword out of reach, yet so close that a codeword in reach would be v itself.
  pub too_close : Laws f → c.n ≤ f.m → (e : ℕ) (v : List ℕ) → length v ≡ c.n → all_below f.q v ≡ true → codeword f c v ≡ true
      → c.checks < 2 * e_of v + s → c.checks < 2 * suc e + s → e + e_of v + s ≤ c.checks → NoneNear
  too_close laws fits e v long symbols code out most close u near =
      let marks = marks_at c.n lost in
      let same : u ≡ v =
      far f laws c fits u v near.word (record { long = long; symbols = symbols }) (λ j h. near.codeword j h ∙ sym (codeword_is f c v code j h))
      (omega (arith, differ_most c marks w u v, near.reach)) in
      let reach : InReach c marks w v = subst (InReach c marks w) same near.reach in
      omega arith
