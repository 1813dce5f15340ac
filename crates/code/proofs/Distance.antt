-- Two words with equal check sums that differ in few positions are equal, and what follows for reach and for messages.
use Rattle.std.proofs.Common.{◌≡◌, ℕ, zero, suc, ◌+◌, ◌*◌, ◌%◌, ◌<◌, ◌≤◌, Bool, true, false, cond, not, ◌&&◌, ◌||◌, eqb, ltb, List, [], ◌∷◌, get_or, sym, refl, ap, ◌∙◌, ap₂, add_assoc, mod-lt, mul_comm, zero-add, arith, ext_get_or, le-ltb, lt-ltb, eq-eqb, eqb-true}
use Prim.Native.Nat.{Fin}
use native.Mathlib.Decide.{dec_lt}
use Rattle.field.specs.Meaning.{Meaning, Laws}
use Rattle.field.specs.Symbols.{Within}
use Rattle.field.specs.Sums.{value}
use Rattle.field.specs.Lifted.{lift, poly, sym_of}
use Rattle.field.proofs.Powers as P
use Rattle.field.proofs.Symbols.{within_from}
use Rattle.field.proofs.Lifting as B
use Rattle.algebra.specs.Field.{Field}
use Rattle.algebra.proofs.Convolution as C
use Rattle.algebra.proofs.Sums as S
use Rattle.algebra.proofs.Roots as R
use Rattle.algebra.proofs.Distance as A
use Rattle.algebra.proofs.Division as D
use Rattle.algebra.proofs.RingSolver as V
use Rattle.algebra.proofs.RingSolver.{◌:+◌, ◌:−◌, ◌:*◌, ◌:=◌, nil, one, mns, v0}
use Rattle.code.specs.Shape.{Shape}
use Rattle.code.specs.Words.{count, check_sum, Word, Carries, agrees, astray, marked}
use Rattle.code.specs.Distance.{differ, Distance, OneInReach, OnePerMessage}
use Rattle.code.proofs.Decided.{every_at, every_from}

count_head : (n : ℕ) (p : ℕ → Bool) → count (suc n) p ≡ cond (p 0) 1 0 + count n (λ i. p (suc i))
count_head zero p = zero-add (cond (p 0) 1 0) ∙ omega arith
count_head (suc n) p = ap (λ k. k + cond (p (suc n)) 1 0) (count_head n p) ∙ add_assoc _ _ _

tally_count : {K : Type 0} (F : Field K) (n : ℕ) (p : ℕ → Bool) → A.tally F n p ≡ count n p
tally_count F zero p = refl
tally_count F (suc n) p = ap (λ k. cond (p 0) 1 0 + k) (tally_count F n (λ i. p (suc i))) ∙ sym (count_head n p)

one_most : (b : Bool) → cond b 1 0 ≤ 1
one_most true = omega arith
one_most false = omega arith

count_most : (n : ℕ) (p : ℕ → Bool) → count n p ≤ n
count_most zero p = omega arith
count_most (suc n) p = let a = count_most n p in let b = one_most (p n) in omega arith

-- at most r pass where none from r on does
pub count_below : (n r : ℕ) (p : ℕ → Bool) → ((i : ℕ) → r ≤ i → i < n → p i ≡ false) → count n p ≤ r
count_below zero r p h = omega arith
count_below (suc n) r p h = elim (dec_lt n r) [
  | yes lt ↦ let a = count_most (suc n) p in omega arith
  | no ge ↦ let a = count_below n r p (λ i x y. h i x (omega arith)) in let e : ◌≡◌ {A = ℕ} (cond (p n) 1 0) 0 = ap (λ (b : Bool). cond {A = ℕ} b 1 0) (h n (omega arith) (omega arith)) in omega arith
]

same_at : (x y : ℕ) (b : Bool) → eqb x y ≡ b → not b ≡ false → x ≡ y
same_at x y true e h = eqb-true x y e
same_at x y false e h = let z : ◌≡◌ {A = ℕ} 1 0 = ap (λ b. cond b 1 0) h in absurd (omega arith)

from : (a : Bool) (x y : ℕ) → a ≡ false → (a || eqb x y) ≡ true → x ≡ y
from true x y e h = let z : ◌≡◌ {A = ℕ} 1 0 = ap (λ b. cond b 1 0) e in absurd (omega arith)
from false x y e h = eqb-true x y h

-- a word that carries the message of w agrees with it after the checks
pub same_from : (f : Meaning) (c : Shape) (w x : List ℕ) → Carries f c w x → (i : ℕ) → c.checks ≤ i → i < c.n → get_or x i 0 ≡ get_or w i 0
same_from f c w x cx i h k = from (ltb i c.checks) _ _ (le-ltb i c.checks h) (every_at (λ i. ltb i c.checks || eqb (get_or x i 0) (get_or w i 0)) c.n cx.message i k)

module _ (f : Meaning) (l : Laws f) where
  abbrev F : Field (Fin f.q)
  F = lift f l

  abbrev s : ℕ → Fin f.q
  s = sym_of f l

  infixl 60 ◌⊕◌
  abbrev ◌⊕◌ : Fin f.q → Fin f.q → Fin f.q
  x ⊕ y = F.◌⊕◌ x y

  infixl 70 ◌⊗◌
  abbrev ◌⊗◌ : Fin f.q → Fin f.q → Fin f.q
  x ⊗ y = F.◌⊗◌ x y

  -- the position's point, a^i
  abbrev X : ℕ → Fin f.q
  X i = B.root f l i

  root_ne : (t : ℕ) → ¬ (B.root f l t ≡ F.𝟘)
  root_ne t e = l.pow_nonzero (t % f.m) (mod-lt t (omega (arith, l.m_low)))
      (P.pow_mod f l t ∙ B.nil_of f l _ (P.pow_in f l f.a t l.a_high) e)

  power_at : (i t : ℕ) → B.root f l (i * t) ≡ R.pow F (X i) t
  power_at i t = ap (λ k. B.root f l k) (mul_comm i t) ∙ ap s (B.pow_mul f l f.a t i l.a_high) ∙ B.pow_of f l _ t (P.pow_in f l f.a i l.a_high)

  apart : (n : ℕ) → n ≤ f.m → R.Distinct F n X
  apart n h i j hi hj ne e = l.pow_apart i j (omega arith) (omega arith) ne
      (B.same_of f l _ _ (P.pow_in f l f.a i l.a_high) (P.pow_in f l f.a j l.a_high) e)

  value_sum : (n : ℕ) (v : List ℕ) (t : ℕ) → Within f.q v → s (value f n v t) ≡ S.sum F n (λ i. poly f l v i ⊗ R.pow F (X i) t)
  value_sum n v t h =
      B.total_of f l n _ (λ i. l.prod_in _ _ (h i) (P.pow_in f l f.a (i * t) l.a_high))
      ∙ S.sum_cong F n _ _ (λ i k. B.prod_of f l _ _ (h i) (P.pow_in f l f.a (i * t) l.a_high) ∙ ap (λ u. poly f l v i ⊗ u) (power_at i t))

  pub distance : (n r b : ℕ) (v w : List ℕ) → n ≤ f.m → Within f.q v → Within f.q w
      → ((j : ℕ) → j < r → value f n v (b + j) ≡ value f n w (b + j)) → count n (differ v w) ≤ r → (i : ℕ) → i < n → get_or v i 0 ≡ get_or w i 0
  distance n r b v w hn hv hw e few i h =
      B.same_of f l _ _ (hv i) (hw i) (R.diff_zero F _ _
      (C.no_zero_div F (R.pow F (X i) b) (c i) (λ z. root_ne (i * b) (power_at i b ∙ z))
      (C.mul_comm F _ _ ∙ A.distance F n r d X (apart n hn) light checks i h)))
    where
      c : ℕ → Fin f.q
      c i = poly f l v i ⊕ F.neg (poly f l w i)

      d : ℕ → Fin f.q
      d i = c i ⊗ R.pow F (X i) b

      light : A.wt F n d ≤ r
      light =
          let a = A.wt_le F n d (differ v w) (λ i z.
          ap (λ u. u ⊗ R.pow F (X i) b) (ap (λ u. s u ⊕ F.neg (poly f l w i)) (same_at _ _ _ refl z) ∙ F.add_neg _) ∙ C.o_mul F _) in
          let t = tally_count F n (differ v w) in
          omega arith

      term : (i j : ℕ) → d i ⊗ R.pow F (X i) j ≡ poly f l v i ⊗ R.pow F (X i) (b + j) ⊕ F.neg F.𝟙 ⊗ (poly f l w i ⊗ R.pow F (X i) (b + j))
      term i j =
          V.solve4 F (λ x y p q. (x :− y) :* p :* q := x :* (p :* q) :+ mns one :* (y :* (p :* q))) refl (poly f l v i) (poly f l w i) (R.pow F (X i) b) (R.pow F (X i) j)
          ∙ ap (λ u. poly f l v i ⊗ u ⊕ F.neg F.𝟙 ⊗ (poly f l w i ⊗ u)) (sym (D.pow_plus F (X i) b j))

      checks : A.Checks F n r d X
      checks j k =
          S.sum_cong F n _ _ (λ i z. term i j)
          ∙ S.sum_add F n (λ i. poly f l v i ⊗ R.pow F (X i) (b + j)) (λ i. F.neg F.𝟙 ⊗ (poly f l w i ⊗ R.pow F (X i) (b + j)))
          ∙ ap₂ (λ x y. x ⊕ y) (sym (value_sum n v (b + j) hv)) (S.sum_scale F n _ _ ∙ ap (λ u. F.neg F.𝟙 ⊗ u) (sym (value_sum n w (b + j) hw)))
          ∙ ap (λ u. s u ⊕ F.neg F.𝟙 ⊗ s (value f n w (b + j))) (e j k)
          ∙ V.solve F (s (value f n w (b + j)) ∷ []) (v0 :+ mns one :* v0 := nil) refl

  pub stands : (c : Shape) (v w : List ℕ) → c.n ≤ f.m → Word f.q c.n v → Word f.q c.n w
      → ((j : ℕ) → j < c.checks → check_sum f c v j ≡ check_sum f c w j) → count c.n (differ v w) ≤ c.checks → v ≡ w
  stands c v w hn hv hw e few =
      ext_get_or 0 v w (hv.long ∙ sym hw.long) (λ i h.
      distance c.n c.checks c.first v w hn (within_from f.q v (omega (arith, l.q_low)) hv.symbols) (within_from f.q w (omega (arith, l.q_low)) hw.symbols)
      (λ j k. ap (λ n. value f n v (c.first + j)) (sym hv.long) ∙ e j k ∙ ap (λ n. value f n w (c.first + j)) hw.long) few i (omega (arith, hv.long)))

  -- a codeword is the only one with its message
  pub only_one : (c : Shape) (w v u : List ℕ) → c.n ≤ f.m → Carries f c w v → Carries f c w u → u ≡ v
  only_one c w v u hn cv cu =
      stands c u v hn cu.word cv.word (λ j h. cu.codeword j h ∙ sym (cv.codeword j h))
      (count_below c.n c.checks (differ u v) (λ i h k. ap not (eq-eqb _ _ (same_from f c w u cu i h k ∙ sym (same_from f c w v cv i h k)))))

  pub agrees_from : (c : Shape) (w v : List ℕ) → ((i : ℕ) → c.checks ≤ i → get_or v i 0 ≡ get_or w i 0) → agrees c.checks c w v ≡ true
  agrees_from c w v h = every_from (λ i. ltb i c.checks || eqb (get_or v i 0) (get_or w i 0)) c.n (λ i k. elim (dec_lt i c.checks) [
    | yes lt ↦ ap (λ b. b || eqb (get_or v i 0) (get_or w i 0)) (lt-ltb i c.checks lt)
    | no ge ↦ either (ltb i c.checks) (eq-eqb _ _ (h i (omega arith)))
  ])
    where
      either : (a : Bool) {b : Bool} → b ≡ true → (a || b) ≡ true
      either true e = refl
      either false e = e

pub far : Distance
far f l c hn v w = stands f l c v w hn

-- unequal is marked, or one of the two is astray
cover : (b x y z : Bool) → (x ≡ true → y ≡ true → z ≡ true) → cond (not z) 1 0 ≤ cond (not b && not x) 1 0 + cond (not b && not y) 1 0 + cond b 1 0
cover b x y true h = omega arith
cover true x y false h = omega arith
cover false false y false h = omega arith
cover false true false false h = omega arith
cover false true true false h = let z : ◌≡◌ {A = ℕ} 0 1 = ap (λ b. cond b 1 0) (h refl refl) in omega arith

count_cover : (n : ℕ) (p q r t : ℕ → Bool) → ((i : ℕ) → cond (p i) 1 0 ≤ cond (q i) 1 0 + cond (r i) 1 0 + cond (t i) 1 0) → count n p ≤ count n q + count n r + count n t
count_cover zero p q r t h = omega arith
count_cover (suc n) p q r t h = let a = h n in let b = count_cover n p q r t h in omega arith

-- two words differ only where a position is marked, or where one of them is astray from w
pub differ_most : (c : Shape) (marks : List Bool) (w u v : List ℕ) → count c.n (differ u v) ≤ astray c marks w u + astray c marks w v + marked c marks
differ_most c marks w u v =
    count_cover c.n (differ u v) (λ i. not (get_or marks i false) && differ u w i) (λ i. not (get_or marks i false) && differ v w i) (λ i. get_or marks i false)
    (λ i. cover (get_or marks i false) (eqb (get_or u i 0) (get_or w i 0)) (eqb (get_or v i 0) (get_or w i 0)) (eqb (get_or u i 0) (get_or v i 0))
    (λ x y. eq-eqb _ _ (eqb-true _ _ x ∙ sym (eqb-true _ _ y))))

pub one_in_reach : OneInReach
one_in_reach f l c hn marks w u v nu nv =
    stands f l c u v hn nu.word nv.word (λ j h. nu.codeword j h ∙ sym (nv.codeword j h))
    (omega (arith, differ_most c marks w u v, nu.reach, nv.reach))

pub one_per_message : OnePerMessage
one_per_message f l c hn w u v cu cv = only_one f l c w v u hn cv cu
