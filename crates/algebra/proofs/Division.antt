-- Values of polynomials, and what one factor more of the generator and one step of a division by it do to them.
use mathlib.Core.Path.{◌≡◌, refl, sym, ap, ap₂, ◌∙◌}
use mathlib.Core.List.{[], ◌∷◌}
use Prim.Native.Nat.{ℕ, ◌+◌, ◌<◌, zero, suc}
use native.Mathlib.Omega.{arith}
use native.Mathlib.Nat.{suc-add, zero-add}
use Rattle.algebra.specs.Field.{Field}
use Rattle.algebra.proofs.Convolution as C
use Rattle.algebra.proofs.Sums as S
use Rattle.algebra.proofs.Roots as R
use Rattle.algebra.proofs.RingSolver as V
use Rattle.algebra.proofs.RingSolver.{E, Eqn, ◌:+◌, ◌:−◌, ◌:*◌, ◌:=◌, nil, one, mns, v0, v1, v2, v3}

module _ {K : Type 0} (F : Field K) where
  open F use {𝟘, 𝟙, ◌⊕◌, ◌⊗◌, neg, inv}

  infixl 60 ◌⊕◌
  infixl 70 ◌⊗◌
  abbrev tl : (ℕ → K) → ℕ → K
  tl f i = f (suc i)

  abbrev ev : ℕ → (ℕ → K) → K → K
  ev = R.ev F

  abbrev pow : K → ℕ → K
  pow = R.pow F

  pub ev_o : (f : ℕ → K) (z : K) → ev 0 f z ≡ 𝟘
  unfolding R.ev
  ev_o f z = refl

  pub ev_suc : (n : ℕ) (f : ℕ → K) (z : K) → ev (suc n) f z ≡ f 0 ⊕ z ⊗ ev n (tl f) z
  unfolding R.ev
  ev_suc n f z = refl

  pub ev_cong : (n : ℕ) (f g : ℕ → K) (z : K) → ((i : ℕ) → i < n → f i ≡ g i) → ev n f z ≡ ev n g z
  unfolding R.ev
  ev_cong zero f g z e = refl
  ev_cong (suc n) f g z e = ap₂ (λ s t. s ⊕ z ⊗ t) (e 0 (omega arith)) (ev_cong n (tl f) (tl g) z (λ i h. e (suc i) (omega arith)))

  pub ev_zero : (n : ℕ) (f : ℕ → K) (z : K) → ((i : ℕ) → i < n → f i ≡ 𝟘) → ev n f z ≡ 𝟘
  unfolding R.ev
  ev_zero zero f z e = refl
  ev_zero (suc n) f z e = ap₂ (λ s t. s ⊕ z ⊗ t) (e 0 (omega arith)) (ev_zero n (tl f) z (λ i h. e (suc i) (omega arith))) ∙ V.solve F (z ∷ []) (nil :+ v0 :* nil := nil) refl

  pub pow_plus : (x : K) (i j : ℕ) → pow x (i + j) ≡ pow x i ⊗ pow x j
  pow_plus x zero j = ap (pow x) (zero-add j) ∙ V.solve F (pow x j ∷ []) (v0 := one :* v0) refl ∙ ap (λ t. t ⊗ pow x j) (sym (R.pow_o F x))
  pow_plus x (suc i) j = ap (pow x) (suc-add i j) ∙ R.pow_suc F x (i + j) ∙ ap (λ t. x ⊗ t) (pow_plus x i j) ∙ sym (C.mul_assoc F _ _ _) ∙ ap (λ t. t ⊗ pow x j) (sym (R.pow_suc F x i))

  -- split at m
  pub ev_split : (m n : ℕ) (f : ℕ → K) (z : K) → ev (m + n) f z ≡ ev m f z ⊕ pow z m ⊗ ev n (λ i. f (m + i)) z
  ev_split zero n f z =
      ap (λ k. ev k f z) (zero-add n) ∙ ev_cong n f (λ i. f (0 + i)) z (λ i h. ap f (sym (zero-add i)))
      ∙ V.solve F (ev n (λ i. f (0 + i)) z ∷ []) (v0 := nil :+ one :* v0) refl
      ∙ ap₂ (λ s t. s ⊕ t ⊗ ev n (λ i. f (0 + i)) z) (sym (ev_o f z)) (sym (R.pow_o F z))
  ev_split (suc m) n f z =
      ap (λ k. ev k f z) (suc-add m n) ∙ ev_suc (m + n) f z ∙ ap (λ t. f 0 ⊕ z ⊗ t) (ev_split m n (tl f) z)
      ∙ ap (λ t. f 0 ⊕ z ⊗ (ev m (tl f) z ⊕ pow z m ⊗ t)) (ev_cong n _ (λ i. f (suc m + i)) z (λ i h. ap f (sym (suc-add m i))))
      ∙ V.solve F (f 0 ∷ z ∷ ev m (tl f) z ∷ pow z m ∷ ev n (λ i. f (suc m + i)) z ∷ [])
      (v0 :+ v1 :* (v2 :+ v3 :* E.var 4) := v0 :+ v1 :* v2 :+ v1 :* v3 :* E.var 4) refl
      ∙ ap₂ (λ s t. s ⊕ t ⊗ ev n (λ i. f (suc m + i)) z) (sym (ev_suc m f z)) (sym (R.pow_suc F z m))

  pub ev_last : (n : ℕ) (f : ℕ → K) (z : K) → ev (suc n) f z ≡ ev n f z ⊕ f n ⊗ pow z n
  ev_last zero f z = ev_suc 0 f z ∙ ap (λ t. f 0 ⊕ z ⊗ t) (ev_o (tl f) z) ∙ V.solve2 F (λ a z. a :+ z :* nil := nil :+ a :* one) refl (f 0) z ∙ ap₂ (λ s t. s ⊕ f 0 ⊗ t) (sym (ev_o f z)) (sym (R.pow_o F z))
  ev_last (suc n) f z =
      ev_suc (suc n) f z ∙ ap (λ t. f 0 ⊕ z ⊗ t) (ev_last n (tl f) z)
      ∙ V.solve F (f 0 ∷ z ∷ ev n (tl f) z ∷ f (suc n) ∷ pow z n ∷ []) (v0 :+ v1 :* (v2 :+ v3 :* E.var 4) := v0 :+ v1 :* v2 :+ v3 :* (v1 :* E.var 4)) refl
      ∙ ap₂ (λ s t. s ⊕ f (suc n) ⊗ t) (sym (ev_suc n f z)) (sym (R.pow_suc F z n))

  pub ev_mix : (n : ℕ) (c : K) (f g : ℕ → K) (z : K) → ev n (λ i. f i ⊕ c ⊗ g i) z ≡ ev n f z ⊕ c ⊗ ev n g z
  unfolding R.ev
  ev_mix zero c f g z = V.solve F (c ∷ []) (nil := nil :+ v0 :* nil) refl
  ev_mix (suc n) c f g z =
      ap (λ t. f 0 ⊕ c ⊗ g 0 ⊕ z ⊗ t) (ev_mix n c (tl f) (tl g) z)
      ∙ V.solve F (c ∷ z ∷ f 0 ∷ g 0 ∷ ev n (tl f) z ∷ ev n (tl g) z ∷ [])
      (v2 :+ v0 :* v3 :+ v1 :* (E.var 4 :+ v0 :* E.var 5) := v2 :+ v1 :* E.var 4 :+ v0 :* (v3 :+ v1 :* E.var 5)) refl

  pub ev_neg : (n : ℕ) (f g : ℕ → K) (z : K) → ((i : ℕ) → i < n → g i ≡ neg (f i)) → ev n g z ≡ neg (ev n f z)
  unfolding R.ev
  ev_neg zero f g z e = V.solve F [] (nil := mns nil) refl
  ev_neg (suc n) f g z e =
      ap₂ (λ s t. s ⊕ z ⊗ t) (e 0 (omega arith)) (ev_neg n (tl f) (tl g) z (λ i h. e (suc i) (omega arith)))
      ∙ V.solve3 F (λ a z t. mns a :+ z :* mns t := mns (a :+ z :* t)) refl (f 0) z (ev n (tl f) z)

  pub ev_sum : (n : ℕ) (f : ℕ → K) (z : K) → ev n f z ≡ S.sum F n (λ i. f i ⊗ pow z i)
  ev_sum zero f z = ev_o f z ∙ sym (S.sum_o F _)
  ev_sum (suc n) f z = ev_last n f z ∙ ap (λ t. t ⊕ f n ⊗ pow z n) (ev_sum n f z) ∙ sym (S.sum_last F n _)

  -- new = x · old + c · from, in the first size places
  pub record Turned (c : K) (size : ℕ) (from old new : ℕ → K) : Type 0 where
    pub first : 0 < size → new 0 ≡ c ⊗ from 0
    pub later : (i : ℕ) → suc i < size → new (suc i) ≡ old i ⊕ c ⊗ from (suc i)

  -- what it does to the value, with one place more of old and from
  pub turned_value : (c : K) (n : ℕ) (from old new : ℕ → K) (z : K) → Turned c (suc n) from old new
      → ev (suc n) new z ≡ z ⊗ ev n old z ⊕ c ⊗ ev (suc n) from z
  turned_value c n from old new z t =
      ev_suc n new z
      ∙ ap₂ (λ s u. s ⊕ z ⊗ u) (t.first (omega arith)) (ev_cong n (tl new) (λ i. old i ⊕ c ⊗ from (suc i)) z (λ i h. t.later i (omega arith)) ∙ ev_mix n c old (tl from) z)
      ∙ V.solve F (c ∷ from 0 ∷ z ∷ ev n old z ∷ ev n (tl from) z ∷ []) (v0 :* v1 :+ v2 :* (v3 :+ v0 :* E.var 4) := v2 :* v3 :+ v0 :* (v1 :+ v2 :* E.var 4)) refl
      ∙ ap (λ u. z ⊗ ev n old z ⊕ c ⊗ u) (sym (ev_suc n from z))

  -- the generator: one factor more, x + c
  pub factor : (c : K) (n : ℕ) (old new : ℕ → K) (z : K) → Turned c (suc n) old old new → old n ≡ 𝟘
      → ev (suc n) new z ≡ (z ⊕ c) ⊗ ev n old z
  factor c n old new z t top =
      turned_value c n old old new z t
      ∙ ap (λ u. z ⊗ ev n old z ⊕ c ⊗ u) (ev_last n old z ∙ ap (λ u. ev n old z ⊕ u ⊗ pow z n) top)
      ∙ V.solve4 F (λ z c e p. z :* e :+ c :* (e :+ nil :* p) := (z :+ c) :* e) refl z c (ev n old z) (pow z n)

  -- the register: at a root of the generator it takes in one symbol more
  pub takes_in : (n : ℕ) (w : K) (gen old new : ℕ → K) (z : K)
      → Turned (w ⊕ neg (old n)) (suc n) gen old new → gen (suc n) ≡ 𝟙 → ev (suc (suc n)) gen z ≡ 𝟘
      → ev (suc n) new z ⊕ w ⊗ pow z (suc n) ≡ z ⊗ ev (suc n) old z
  takes_in n w gen old new z t top root =
      ap₂ (λ u p. u ⊕ w ⊗ p) (turned_value (w ⊕ neg (old n)) n gen old new z t) (R.pow_suc F z n)
      ∙ V.solve F (z ∷ ev n old z ∷ w ∷ old n ∷ ev (suc n) gen z ∷ pow z n ∷ [])
      (v0 :* v1 :+ (v2 :− v3) :* E.var 4 :+ v2 :* (v0 :* E.var 5)
      := v0 :* (v1 :+ v3 :* E.var 5) :+ (v2 :− v3) :* (E.var 4 :+ one :* (v0 :* E.var 5))) refl
      ∙ ap (λ p. z ⊗ (ev n old z ⊕ old n ⊗ pow z n) ⊕ (w ⊕ neg (old n)) ⊗ (ev (suc n) gen z ⊕ 𝟙 ⊗ p)) (sym (R.pow_suc F z n))
      ∙ ap₂ (λ u v. z ⊗ u ⊕ (w ⊕ neg (old n)) ⊗ v) (sym (ev_last n old z))
      (ap (λ u. ev (suc n) gen z ⊕ u ⊗ pow z (suc n)) (sym top) ∙ sym (ev_last (suc n) gen z) ∙ root)
      ∙ V.solve2 F (λ a c. a :+ c :* nil := a) refl _ _

  -- so, with the part t of the word that it took in before, what is held stays 0 at the root
  pub takes_more : (n k : ℕ) (gen old new tail : ℕ → K) (z : K)
      → Turned (tail 0 ⊕ neg (old n)) (suc n) gen old new → gen (suc n) ≡ 𝟙 → ev (suc (suc n)) gen z ≡ 𝟘
      → ev (suc n) old z ⊕ pow z (suc n) ⊗ ev k (tl tail) z ≡ 𝟘
      → ev (suc n) new z ⊕ pow z (suc n) ⊗ ev (suc k) tail z ≡ 𝟘
  takes_more n k gen old new tail z t top root held =
      ap (λ u. ev (suc n) new z ⊕ pow z (suc n) ⊗ u) (ev_suc k tail z)
      ∙ V.solve F (ev (suc n) new z ∷ pow z (suc n) ∷ tail 0 ∷ z ∷ ev k (tl tail) z ∷ [])
      (v0 :+ v1 :* (v2 :+ v3 :* E.var 4) := v0 :+ v2 :* v1 :+ v3 :* (v1 :* E.var 4)) refl
      ∙ ap (λ u. u ⊕ z ⊗ (pow z (suc n) ⊗ ev k (tl tail) z)) (takes_in n (tail 0) gen old new z t top root)
      ∙ sym (C.mul_add F _ _ _) ∙ ap (λ u. z ⊗ u) held ∙ C.mul_o F z

  -- long division: taking off the multiple of the generator that cancels the top place keeps the value at a root
  pub divided : (d r : ℕ) (gen old new : ℕ → K) (z : K) → gen r ≡ 𝟙 → ev (suc r) gen z ≡ 𝟘
      → ((i : ℕ) → i < d → new i ≡ old i) → ((i : ℕ) → i < r → new (d + i) ≡ old (d + i) ⊕ neg (old (d + r)) ⊗ gen i)
      → ev (suc (d + r)) old z ≡ ev (d + r) new z
  divided d r gen old new z top root low high =
      let t = old (d + r) in
      let A = ev d old z in
      let B = ev r (λ i. old (d + i)) z in
      let G = ev r gen z in
      let p = pow z d in
      let q = pow z r in
      let cancels : G ⊕ 𝟙 ⊗ q ≡ 𝟘 = ap (λ u. G ⊕ u ⊗ q) (sym top) ∙ sym (ev_last r gen z) ∙ root in
      let new_is : ev (d + r) new z ≡ A ⊕ p ⊗ (B ⊕ neg t ⊗ G) =
      ev_split d r new z ∙ ap₂ (λ u v. u ⊕ p ⊗ v) (ev_cong d new old z low) (ev_cong r (λ i. new (d + i)) (λ i. old (d + i) ⊕ neg t ⊗ gen i) z high ∙ ev_mix r (neg t) (λ i. old (d + i)) gen z) in
      ev_last (d + r) old z ∙ ap₂ (λ u v. u ⊕ t ⊗ v) (ev_split d r old z) (pow_plus z d r)
      ∙ V.solve F (A ∷ p ∷ B ∷ t ∷ q ∷ G ∷ []) (v0 :+ v1 :* v2 :+ v3 :* (v1 :* E.var 4) := v0 :+ v1 :* (v2 :+ mns v3 :* E.var 5) :+ v3 :* v1 :* (E.var 5 :+ one :* E.var 4)) refl
      ∙ ap (λ u. A ⊕ p ⊗ (B ⊕ neg t ⊗ G) ⊕ t ⊗ p ⊗ u) cancels ∙ ap (λ u. A ⊕ p ⊗ (B ⊕ neg t ⊗ G) ⊕ u) (C.mul_o F (t ⊗ p)) ∙ C.add_o F _ ∙ sym new_is

  -- a word that holds the opposite of a remainder in its first places is 0 where the rest of it has the remainder's value
  pub completed : (r m : ℕ) (word rest left : ℕ → K) (z : K) → ((i : ℕ) → i < r → word i ≡ neg (left i)) → ((i : ℕ) → i < r → rest i ≡ 𝟘)
      → ((i : ℕ) → i < m → word (r + i) ≡ rest (r + i)) → ev (r + m) rest z ≡ ev r left z → ev (r + m) word z ≡ 𝟘
  completed r m word rest left z low zeros high e =
      let u = ev m (λ i. rest (r + i)) z in
      let p = pow z r in
      let tail : p ⊗ u ≡ ev r left z = sym (ev_split r m rest z ∙ ap (λ v. v ⊕ p ⊗ u) (ev_zero r rest z zeros) ∙ C.o_add F _) ∙ e in
      ev_split r m word z ∙ ap₂ (λ a b. a ⊕ p ⊗ b) (ev_neg r left word z low) (ev_cong m _ _ z high) ∙ ap (λ v. neg (ev r left z) ⊕ v) tail ∙ C.add_comm F _ _ ∙ C.add_neg F _

  -- a word that agrees from r on with one that is 0 at z has there the value of what differs below r
  pub remainder : (r m : ℕ) (w v : ℕ → K) (z : K) → ((i : ℕ) → i < m → w (r + i) ≡ v (r + i)) → ev (r + m) v z ≡ 𝟘
      → ev (r + m) w z ≡ ev r (λ i. w i ⊕ neg 𝟙 ⊗ v i) z
  remainder r m w v z same root =
      let tail = ev m (λ i. v (r + i)) z in
      ev_split r m w z ∙ ap (λ t. ev r w z ⊕ pow z r ⊗ t) (ev_cong m _ _ z same)
      ∙ V.solve F (ev r w z ∷ ev r v z ∷ pow z r ∷ tail ∷ []) (v0 :+ v2 :* v3 := v0 :+ mns one :* v1 :+ (v1 :+ v2 :* v3)) refl
      ∙ ap₂ (λ s t. s ⊕ t) (sym (ev_mix r (neg 𝟙) w v z)) (sym (ev_split r m v z) ∙ root) ∙ C.add_o F _
