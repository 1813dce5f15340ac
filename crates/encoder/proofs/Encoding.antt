-- What encoding gives: the one codeword with the message; codewords stay as they are; the check sums of a word from what encoding changes.
use Rattle.std.proofs.Common.{◌≡◌, ℕ, ◌+◌, ◌-◌, ◌<◌, ◌≤◌, List, ◌++◌, length, get_or, drop, sym, refl, ap, ◌∙◌, arith, length-append, length-drop, get_or-drop}
use Rattle.std.proofs.lemmas.List.{get_or-append_right}
use Rattle.field.specs.Meaning.{Meaning, Laws}
use Rattle.field.specs.Symbols.{Within}
use Rattle.field.specs.Sums.{value}
use Rattle.field.specs.Lifted.{lift, poly, sym_of}
use Rattle.field.proofs.Symbols.{within_from, below_from}
use Rattle.field.proofs.Lifting as B
use Rattle.algebra.proofs.Roots as R
use Rattle.algebra.proofs.Division as D
use Rattle.algebra.proofs.RingSolver as V
use Rattle.algebra.proofs.RingSolver.{◌:+◌, ◌:*◌, ◌:=◌, one, mns}
use Rattle.code.specs.Shape.{Shape}
use Rattle.code.specs.Words.{check_sum, Codeword, Word, Carries}
use Rattle.code.proofs.Distance.{same_from, only_one, agrees_from}
use Rattle.encoder.specs.Encodes.{Encodes}
use Rattle.encoder.proofs.Turns.{drop_in}
use Rattle.encoder.proofs.Holding.{Holding, append_in, holding_end}

module _ (f : Meaning) (l : Laws f) (c : Shape) where
  -- what the register leaves once it took in the whole message
  pub encodes : (w v : List ℕ) → c.n ≤ f.m → c.checks ≤ c.n → Word f.q c.n w → length v ≡ c.checks → Holding f c.first c.checks 0 (drop c.checks w) v
      → Encodes f c w (v ++ drop c.checks w)
  encodes w v hn hr hw long h = record { carries = carries; only = λ x cx. only_one f l c w _ x hn carries cx }
    where
      m : List ℕ
      m = drop c.checks w

      w_in : Within f.q w
      w_in = within_from f.q w (omega (arith, l.q_low)) hw.symbols

      m_in : Within f.q m
      m_in = drop_in f l c.checks w w_in

      carries : Carries f c w (v ++ m)
      carries = record {
        word = record { long = length-append v m ∙ omega (arith, hw.long, length-drop c.checks w); symbols = below_from f.q (v ++ m) (λ i _. append_in f.q v m h.within m_in i) };
        codeword = holding_end f l c.first c.checks m v long m_in h;
        message = agrees_from f l c w (v ++ m) (λ i k. get_or-append_right v m c.checks i 0 long k ∙ get_or-drop c.checks w (i - c.checks) 0 ∙ ap (λ n. get_or w n 0) (omega arith));
      }

  -- a codeword is left as it is
  pub clean : (w v : List ℕ) → Word f.q c.n w → Encodes f c w v → Codeword f c w → w ≡ v
  clean w v hw e k = e.only w (record { word = hw; codeword = k; message = agrees_from f l c w w (λ i h. refl) })

  -- the check sums of a word are the values of the symbols, as many as there are checks, in which it differs from the word encoded
  pub from_remainder : (w v : List ℕ) → c.checks ≤ c.n → Word f.q c.n w → Encodes f c w v → (j : ℕ) → j < c.checks
      → sym_of f l (check_sum f c w j)
      ≡ R.ev (lift f l) c.checks (λ i. (lift f l).◌⊕◌ (poly f l w i) ((lift f l).◌⊗◌ ((lift f l).neg (lift f l).𝟙) (poly f l v i))) (B.root f l (c.first + j))
  from_remainder w v hr hw e j h =
      let F = lift f l in
      let z = B.root f l (c.first + j) in
      let d = c.n - c.checks in
      let en : c.n ≡ c.checks + d = omega arith in
      let vw = e.carries.word in
      let in_w = within_from f.q w (omega (arith, l.q_low)) hw.symbols in
      let in_v = within_from f.q v (omega (arith, l.q_low)) vw.symbols in
      let ev_v : R.ev F (c.checks + d) (poly f l v) z ≡ F.𝟘 =
      ap (λ n. R.ev F n (poly f l v) z) (sym en ∙ sym vw.long) ∙ sym (B.value_of f l (length v) v (c.first + j) in_v) ∙ B.nil_to f l _ (e.carries.codeword j h) in
      B.value_of f l (length w) w (c.first + j) in_w ∙ ap (λ n. R.ev F n (poly f l w) z) (hw.long ∙ en)
      ∙ D.remainder F c.checks d (poly f l w) (poly f l v) z
      (λ i k. ap (sym_of f l) (sym (same_from f c w v e.carries (c.checks + i) (omega arith) (omega arith)))) ev_v

  -- the same in numbers: d holds the differences, each symbol plus the opposite of the encoded one
  pub from_differences : (w v d : List ℕ) → c.checks ≤ c.n → Word f.q c.n w → Encodes f c w v → Within f.q d
      → ((i : ℕ) → i < c.checks → get_or d i 0 ≡ f.sum (get_or w i 0) (f.opp (get_or v i 0)))
      → (j : ℕ) → j < c.checks → check_sum f c w j ≡ value f c.checks d (c.first + j)
  from_differences w v d hr hw e in-d each j h =
      let F = lift f l in
      let z = B.root f l (c.first + j) in
      let in_w = within_from f.q w (omega (arith, l.q_low)) hw.symbols in
      let in_v = within_from f.q v (omega (arith, l.q_low)) e.carries.word.symbols in
      let at : (i : ℕ) → i < c.checks → F.◌⊕◌ (poly f l w i) (F.◌⊗◌ (F.neg F.𝟙) (poly f l v i)) ≡ poly f l d i =
      λ i k. V.solve2 F (λ x y. x :+ mns one :* y := x :+ mns y) refl (poly f l w i) (poly f l v i)
      ∙ ap (F.◌⊕◌ (poly f l w i)) (sym (B.opp_of f l _ (in_v i)))
      ∙ sym (B.sum_of f l _ _ (in_w i) (l.opp_in _ (in_v i))) ∙ ap (sym_of f l) (sym (each i k)) in
      B.same_of f l _ _ (B.value_in f l (length w) w (c.first + j) in_w) (B.value_in f l c.checks d (c.first + j) in-d)
      (from_remainder w v hr hw e j h ∙ D.ev_cong F c.checks _ _ z at ∙ sym (B.value_of f l c.checks d (c.first + j) in-d))
