-- A reflective solver for commutative rings.
use mathlib.Core.Path.{◌≡◌, refl, sym, ap, ap₂, ◌∙◌}
use mathlib.Core.List.{List, [], ◌∷◌, ◌++◌}
use Prim.Native.Nat.{ℕ, zero, suc, compare, Ordering}
use Rattle.algebra.specs.Field.{Field}
use Rattle.algebra.proofs.Convolution as C

infixl 60 ◌:+◌
infixl 60 ◌:−◌
infixl 70 ◌:*◌
infix 40 ◌:=◌
pub data E : Type 0 where
  var : ℕ → E
  nil one : E
  ◌:+◌ ◌:*◌ : E → E → E
  mns : E → E

abbrev pub ◌:−◌ : E → E → E
a :− b = a :+ mns b

pub data Eqn : Type 0 where
  ◌:=◌ : E → E → Eqn

abbrev pick : {A : Type 0} → Ordering → A → A → A
pick Ordering.lt x y = x
pick Ordering.eq x y = x
pick Ordering.gt x y = y

abbrev ins : ℕ → List ℕ → List ℕ
ins i [] = i ∷ []
ins i (j ∷ m) = pick (compare i j) (i ∷ j ∷ m) (j ∷ ins i m)

abbrev join : List ℕ → List ℕ → List ℕ
join [] n = n
join (i ∷ m) n = ins i (join m n)

abbrev then : Ordering → Ordering → Ordering
then Ordering.lt r = Ordering.lt
then Ordering.eq r = r
then Ordering.gt r = Ordering.gt

abbrev cmp : List ℕ → List ℕ → Ordering
cmp [] [] = Ordering.eq
cmp [] (j ∷ n) = Ordering.lt
cmp (i ∷ m) [] = Ordering.gt
cmp (i ∷ m) (j ∷ n) = then (compare i j) (cmp m n)

abbrev Poly : Type 0
Poly = List (List ℕ)

abbrev insM : List ℕ → Poly → Poly
insM m [] = m ∷ []
insM m (n ∷ p) = pick (cmp m n) (m ∷ n ∷ p) (n ∷ insM m p)

abbrev sort : Poly → Poly
sort [] = []
sort (m ∷ p) = insM m (sort p)

abbrev scale : List ℕ → Poly → Poly
scale m [] = []
scale m (n ∷ p) = join m n ∷ scale m p

abbrev times : Poly → Poly → Poly
times [] q = []
times (m ∷ p) q = scale m q ++ times p q

abbrev mutual
  pos : E → Poly
  pos (var i) = (i ∷ []) ∷ []
  pos nil = []
  pos one = [] ∷ []
  pos (a :+ b) = pos a ++ pos b
  pos (a :* b) = times (pos a) (pos b) ++ times (nega a) (nega b)
  pos (mns a) = nega a

  nega : E → Poly
  nega (var i) = []
  nega nil = []
  nega one = []
  nega (a :+ b) = nega a ++ nega b
  nega (a :* b) = times (pos a) (nega b) ++ times (nega a) (pos b)
  nega (mns a) = pos a

abbrev pub v0 : E
v0 = var 0

abbrev pub v1 : E
v1 = var 1

abbrev pub v2 : E
v2 = var 2

abbrev pub v3 : E
v3 = var 3

module _ {K : Type 0} (F : Field K) where
  open F use {𝟘, 𝟙, ◌⊕◌, ◌⊗◌, neg, inv}

  infixl 60 ◌⊕◌
  infixl 70 ◌⊗◌
  abbrev nth : List K → ℕ → K
  nth [] i = 𝟘
  nth (x ∷ ρ) zero = x
  nth (x ∷ ρ) (suc i) = nth ρ i

  abbrev pub den : List K → E → K
  den ρ (var i) = nth ρ i
  den ρ nil = 𝟘
  den ρ one = 𝟙
  den ρ (a :+ b) = den ρ a ⊕ den ρ b
  den ρ (a :* b) = den ρ a ⊗ den ρ b
  den ρ (mns a) = neg (den ρ a)

  abbrev mono : List K → List ℕ → K
  mono ρ [] = 𝟙
  mono ρ (i ∷ m) = nth ρ i ⊗ mono ρ m

  abbrev tot : List K → Poly → K
  tot ρ [] = 𝟘
  tot ρ (m ∷ p) = mono ρ m ⊕ tot ρ p

  at_pick : {A : Type 0} (f : A → K) (r : Ordering) (x y : A) (v : K) → f x ≡ v → f y ≡ v → f (pick r x y) ≡ v
  at_pick f Ordering.lt x y v p q = p
  at_pick f Ordering.eq x y v p q = p
  at_pick f Ordering.gt x y v p q = q

  mono_ins : (ρ : List K) (i : ℕ) (m : List ℕ) → mono ρ (ins i m) ≡ nth ρ i ⊗ mono ρ m
  mono_ins ρ i [] = refl
  mono_ins ρ i (j ∷ m) = at_pick (mono ρ) (compare i j) _ _ _ refl (ap (λ t. nth ρ j ⊗ t) (mono_ins ρ i m) ∙ C.mul_left_comm F _ _ _)

  mono_join : (ρ : List K) (m n : List ℕ) → mono ρ (join m n) ≡ mono ρ m ⊗ mono ρ n
  mono_join ρ [] n = sym (C.mul_comm F _ _ ∙ C.mul_one F _)
  mono_join ρ (i ∷ m) n = mono_ins ρ i (join m n) ∙ ap (λ t. nth ρ i ⊗ t) (mono_join ρ m n) ∙ sym (C.mul_assoc F _ _ _)

  tot_insM : (ρ : List K) (m : List ℕ) (p : Poly) → tot ρ (insM m p) ≡ mono ρ m ⊕ tot ρ p
  tot_insM ρ m [] = refl
  tot_insM ρ m (n ∷ p) = at_pick (tot ρ) (cmp m n) _ _ _ refl (ap (λ t. mono ρ n ⊕ t) (tot_insM ρ m p) ∙ C.add_left_comm F _ _ _)

  tot_sort : (ρ : List K) (p : Poly) → tot ρ (sort p) ≡ tot ρ p
  tot_sort ρ [] = refl
  tot_sort ρ (m ∷ p) = tot_insM ρ m (sort p) ∙ ap (λ t. mono ρ m ⊕ t) (tot_sort ρ p)

  tot_++ : (ρ : List K) (p q : Poly) → tot ρ (p ++ q) ≡ tot ρ p ⊕ tot ρ q
  tot_++ ρ [] q = sym (C.o_add F _)
  tot_++ ρ (m ∷ p) q = ap (λ t. mono ρ m ⊕ t) (tot_++ ρ p q) ∙ sym (C.add_assoc F _ _ _)

  tot_scale : (ρ : List K) (m : List ℕ) (p : Poly) → tot ρ (scale m p) ≡ mono ρ m ⊗ tot ρ p
  tot_scale ρ m [] = sym (C.mul_o F _)
  tot_scale ρ m (n ∷ p) = ap₂ ◌⊕◌ (mono_join ρ m n) (tot_scale ρ m p) ∙ sym (C.mul_add F _ _ _)

  tot_times : (ρ : List K) (p q : Poly) → tot ρ (times p q) ≡ tot ρ p ⊗ tot ρ q
  tot_times ρ [] q = sym (C.o_mul F _)
  tot_times ρ (m ∷ p) q = tot_++ ρ (scale m q) (times p q) ∙ ap₂ ◌⊕◌ (tot_scale ρ m q) (tot_times ρ p q) ∙ sym (C.add_mul F _ _ _)

  -- den e ⊕ nega e = pos e
  balance_mul : (a b p n q m : K) → a ⊕ n ≡ p → b ⊕ m ≡ q → a ⊗ b ⊕ (p ⊗ m ⊕ n ⊗ q) ≡ p ⊗ q ⊕ n ⊗ m
  balance_mul a b p n q m x y = rw (← x, ← y) (simp (C.mul_add F, C.add_mul F, C.add_assoc F, C.add_comm F, C.add_left_comm F))

  sound : (ρ : List K) (e : E) → den ρ e ⊕ tot ρ (nega e) ≡ tot ρ (pos e)
  sound ρ (var i) = ap (λ t. t ⊕ 𝟘) (sym (C.mul_one F _))
  sound ρ nil = C.add_o F 𝟘
  sound ρ one = refl
  sound ρ (a :+ b) = rw (tot_++ ρ (nega a) (nega b), tot_++ ρ (pos a) (pos b), ← (sound ρ a), ← (sound ρ b)) (C.swap_mid F _ _ _ _)
  sound ρ (a :* b) =
      rw (
        tot_++ ρ (times (pos a) (nega b)) (times (nega a) (pos b)),
        tot_++ ρ (times (pos a) (pos b)) (times (nega a) (nega b)),
        tot_times ρ (pos a) (nega b),
        tot_times ρ (nega a) (pos b),
        tot_times ρ (pos a) (pos b),
        tot_times ρ (nega a) (nega b),
      )
      (balance_mul _ _ _ _ _ _ (sound ρ a) (sound ρ b))
  sound ρ (mns a) = rw (← (sound ρ a)) (sym (C.add_assoc F _ _ _) ∙ ap (λ t. t ⊕ tot ρ (nega a)) (C.add_comm F _ _ ∙ C.add_neg F _) ∙ C.o_add F _)

  abbrev Holds : List K → Eqn → Type 0
  Holds ρ (a := b) = den ρ a ≡ den ρ b

  abbrev Same : Eqn → Type 0
  Same (a := b) = sort (pos a ++ nega b) ≡ sort (pos b ++ nega a)

  pub solve : (ρ : List K) (q : Eqn) → Same q → Holds ρ q
  solve ρ (a := b) e = C.add_cancel F (na ⊕ nb) _ _ (C.add_comm F _ _ ∙ mid ∙ C.add_comm F _ _)
    where
      na : K
      na = tot ρ (nega a)

      nb : K
      nb = tot ρ (nega b)

      same : tot ρ (pos a) ⊕ nb ≡ tot ρ (pos b) ⊕ na
      same = sym (tot_++ ρ (pos a) (nega b)) ∙ sym (tot_sort ρ (pos a ++ nega b)) ∙ ap (tot ρ) e ∙ tot_sort ρ (pos b ++ nega a) ∙ tot_++ ρ (pos b) (nega a)

      mid : den ρ a ⊕ (na ⊕ nb) ≡ den ρ b ⊕ (na ⊕ nb)
      mid = sym (C.add_assoc F _ _ _) ∙ ap (λ t. t ⊕ nb) (sound ρ a) ∙ same ∙ ap (λ t. t ⊕ na) (sym (sound ρ b)) ∙ C.add_assoc F _ _ _ ∙ ap (λ t. den ρ b ⊕ t) (C.add_comm F _ _)

  test1 : (a b c d : K) → (a ⊕ b) ⊗ (c ⊕ d) ≡ a ⊗ c ⊕ a ⊗ d ⊕ b ⊗ c ⊕ b ⊗ d
  test1 a b c d = solve (a ∷ b ∷ c ∷ d ∷ []) ((var 0 :+ var 1) :* (var 2 :+ var 3) := var 0 :* var 2 :+ var 0 :* var 3 :+ var 1 :* var 2 :+ var 1 :* var 3) refl

  test2 : (y x f g : K) → y ⊗ f ⊕ neg (x ⊗ g) ≡ y ⊗ (f ⊕ neg g) ⊕ (y ⊕ neg x) ⊗ g
  test2 y x f g = solve (y ∷ x ∷ f ∷ g ∷ []) (v0 :* v2 :− v1 :* v3 := v0 :* (v2 :− v3) :+ (v0 :− v1) :* v3) refl

  test3 : (y x : K) → (y ⊕ neg x) ⊗ (y ⊕ neg x) ⊗ (y ⊕ neg x) ⊗ (y ⊕ x) ⊗ (y ⊕ x) ⊗ (y ⊕ x) ≡ (y ⊗ y ⊕ neg (x ⊗ x)) ⊗ (y ⊗ y ⊕ neg (x ⊗ x)) ⊗ (y ⊗ y ⊕ neg (x ⊗ x))
  test3 y x =
      let s = v0 :* v0 :− v1 :* v1 in
      let m = v0 :− v1 in
      let p = v0 :+ v1 in
      solve (y ∷ x ∷ []) (m :* m :* m :* p :* p :* p := s :* s :* s) refl

  pub solve2 : (q : E → E → Eqn) → Same (q v0 v1) → (a b : K) → Holds (a ∷ b ∷ []) (q v0 v1)
  solve2 q e a b = solve (a ∷ b ∷ []) (q v0 v1) e

  pub solve3 : (q : E → E → E → Eqn) → Same (q v0 v1 v2) → (a b c : K) → Holds (a ∷ b ∷ c ∷ []) (q v0 v1 v2)
  solve3 q e a b c = solve (a ∷ b ∷ c ∷ []) (q v0 v1 v2) e

  pub solve4 : (q : E → E → E → E → Eqn) → Same (q v0 v1 v2 v3) → (a b c d : K) → Holds (a ∷ b ∷ c ∷ d ∷ []) (q v0 v1 v2 v3)
  solve4 q e a b c d = solve (a ∷ b ∷ c ∷ d ∷ []) (q v0 v1 v2 v3) e

  test5 : (y x f g : K) → y ⊗ f ⊕ neg (x ⊗ g) ≡ y ⊗ (f ⊕ neg g) ⊕ (y ⊕ neg x) ⊗ g
  test5 = solve4 (λ y x f g. y :* f :− x :* g := y :* (f :− g) :+ (y :− x) :* g) refl
