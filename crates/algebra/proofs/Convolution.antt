-- Convolution by streams: no subtraction, no sums.
use mathlib.Core.Path.{◌≡◌, refl, sym, ap, ap₂, ◌∙◌, fun_ext}
use Prim.Native.Nat.{ℕ, ◌+◌, ◌≤◌, zero, suc}
use native.Mathlib.Omega.{arith}
use Rattle.algebra.specs.Field.{Field}
use Rattle.algebra.specs.Poly as P

pub Seq : Type 0 → Type 0
Seq K = ℕ → K

module _ {K : Type 0} (F : Field K) where
  open F use {𝟘, 𝟙, ◌⊕◌, ◌⊗◌, neg, inv}

  infixl 60 ◌⊕◌
  infixl 70 ◌⊗◌
  -- the laws once more, as lemmas: a `ruleset` takes no field
  pub add_assoc : (x y z : K) → (x ⊕ y) ⊕ z ≡ x ⊕ (y ⊕ z)
  add_assoc = F.add_assoc

  pub add_comm : (x y : K) → x ⊕ y ≡ y ⊕ x
  add_comm = F.add_comm

  pub add_o : (x : K) → x ⊕ 𝟘 ≡ x
  add_o = F.add_o

  pub add_neg : (x : K) → x ⊕ neg x ≡ 𝟘
  add_neg = F.add_neg

  pub mul_assoc : (x y z : K) → (x ⊗ y) ⊗ z ≡ x ⊗ (y ⊗ z)
  mul_assoc = F.mul_assoc

  pub mul_comm : (x y : K) → x ⊗ y ≡ y ⊗ x
  mul_comm = F.mul_comm

  pub mul_one : (x : K) → x ⊗ 𝟙 ≡ x
  mul_one = F.mul_one

  pub mul_add : (x y z : K) → x ⊗ (y ⊕ z) ≡ (x ⊗ y) ⊕ (x ⊗ z)
  mul_add = F.mul_add

  pub o_add : (x : K) → 𝟘 ⊕ x ≡ x
  o_add x = add_comm 𝟘 x ∙ add_o x

  pub add_left_comm : (x y z : K) → x ⊕ (y ⊕ z) ≡ y ⊕ (x ⊕ z)
  add_left_comm x y z = sym (add_assoc x y z) ∙ ap (λ t. t ⊕ z) (add_comm x y) ∙ add_assoc y x z

  pub mul_left_comm : (x y z : K) → x ⊗ (y ⊗ z) ≡ y ⊗ (x ⊗ z)
  mul_left_comm x y z = sym (mul_assoc x y z) ∙ ap (λ t. t ⊗ z) (mul_comm x y) ∙ mul_assoc y x z

  pub add_mul : (x y z : K) → (x ⊕ y) ⊗ z ≡ x ⊗ z ⊕ y ⊗ z
  add_mul x y z = mul_comm _ _ ∙ mul_add z x y ∙ ap₂ ◌⊕◌ (mul_comm z x) (mul_comm z y)

  pub add_cancel : (x y z : K) → x ⊕ y ≡ x ⊕ z → y ≡ z
  add_cancel x y z e = sym (down y) ∙ ap (λ t. neg x ⊕ t) e ∙ down z
    where
      down : (t : K) → neg x ⊕ (x ⊕ t) ≡ t
      down t = sym (add_assoc _ _ _) ∙ ap (λ s. s ⊕ t) (add_comm _ _ ∙ add_neg x) ∙ o_add t

  pub mul_o : (x : K) → x ⊗ 𝟘 ≡ 𝟘
  mul_o x = add_cancel (x ⊗ 𝟘) (x ⊗ 𝟘) 𝟘 (sym (mul_add x 𝟘 𝟘) ∙ ap (λ t. x ⊗ t) (add_o 𝟘) ∙ sym (add_o _))

  pub o_mul : (x : K) → 𝟘 ⊗ x ≡ 𝟘
  o_mul x = mul_comm 𝟘 x ∙ mul_o x

  -- x ≠ 0 and x y = 0 gives y = 0
  pub no_zero_div : (x y : K) → ¬ (x ≡ 𝟘) → x ⊗ y ≡ 𝟘 → y ≡ 𝟘
  no_zero_div x y ne e = sym back ∙ ap (λ t. inv x ⊗ t) e ∙ mul_o _
    where
      back : inv x ⊗ (x ⊗ y) ≡ y
      back = sym (mul_assoc _ _ _) ∙ ap (λ t. t ⊗ y) (mul_comm _ _ ∙ F.mul_inv x ne) ∙ mul_comm _ _ ∙ mul_one y

  pub swap_mid : (a b c d : K) → (a ⊕ b) ⊕ (c ⊕ d) ≡ (a ⊕ c) ⊕ (b ⊕ d)
  swap_mid a b c d = simp (add_assoc, add_comm, add_left_comm)

  pub four : (a b c d : K) → (a ⊕ b) ⊗ (c ⊕ d) ≡ a ⊗ c ⊕ a ⊗ d ⊕ b ⊗ c ⊕ b ⊗ d
  four a b c d = simp (mul_add, add_mul, add_assoc, add_comm, add_left_comm, mul_comm, mul_assoc, mul_left_comm)

  pub ruleset ac = (add_assoc, add_comm, add_left_comm)

  pub ruleset ring = (mul_add, add_mul, mul_o, o_mul, add_o, o_add, mul_one, add_assoc, add_comm, add_left_comm, mul_comm, mul_assoc, mul_left_comm)

  abbrev pub tl : (ℕ → K) → ℕ → K
  tl f i = f (suc i)

  abbrev pub conv : ℕ → (ℕ → K) → (ℕ → K) → K
  conv = P.conv F

  pub conv_o : (f g : ℕ → K) → conv 0 f g ≡ f 0 ⊗ g 0
  unfolding P.conv
  conv_o f g = refl

  pub conv_suc : (k : ℕ) (f g : ℕ → K) → conv (suc k) f g ≡ f 0 ⊗ g (suc k) ⊕ conv k (tl f) g
  unfolding P.conv
  conv_suc k f g = refl

  pub conv_last : (k : ℕ) (f g : ℕ → K) → conv (suc k) f g ≡ conv k f (tl g) ⊕ f (suc k) ⊗ g 0
  conv_last zero f g = rw (conv_suc 0 f g) (simp conv_o)
  conv_last (suc k) f g = rw (conv_suc (suc k) f g, conv_last k (tl f) g, conv_suc k f (tl g)) (sym (add_assoc _ _ _))

  pub conv_comm : (k : ℕ) (f g : ℕ → K) → conv k f g ≡ conv k g f
  conv_comm zero f g = simp (conv_o, mul_comm)
  conv_comm (suc k) f g = rw (conv_suc k f g, conv_last k g f, conv_comm k (tl f) g) (simp (add_comm, mul_comm))

  pub conv_add_l : (k : ℕ) (f h g : ℕ → K) → conv k (λ i. f i ⊕ h i) g ≡ conv k f g ⊕ conv k h g
  conv_add_l zero f h g = simp (conv_o, add_mul)
  conv_add_l (suc k) f h g = simp (conv_suc, conv_add_l k (tl f) (tl h) g, add_mul, ac)

  pub conv_scale_l : (k : ℕ) (c : K) (f g : ℕ → K) → conv k (λ i. c ⊗ f i) g ≡ c ⊗ conv k f g
  conv_scale_l zero c f g = simp (conv_o, mul_assoc)
  conv_scale_l (suc k) c f g = simp (conv_suc, conv_scale_l k c (tl f) g, mul_add, mul_assoc)

  pub conv_assoc : (k : ℕ) (f g h : ℕ → K) → conv k (λ i. conv i f g) h ≡ conv k f (λ i. conv i g h)
  conv_assoc zero f g h = simp (conv_o, mul_assoc)
  conv_assoc (suc k) f g h =
      let step : tl (λ i. conv i f g) ≡ (λ i. f 0 ⊗ g (suc i) ⊕ conv i (tl f) g) = fun_ext (λ i. conv_suc i f g) in
      let rest = ap (λ t. conv k t h) step ∙ conv_add_l k (λ i. f 0 ⊗ g (suc i)) (λ i. conv i (tl f) g) h ∙ ap₂ ◌⊕◌ (conv_scale_l k (f 0) (tl g) h) (conv_assoc k (tl f) g h) in
      rw (conv_suc k (λ i. conv i f g) h, conv_suc k f (λ i. conv i g h), rest) (simp (conv_suc, conv_o, ring))

  -- the coefficients up to k decide
  pub conv_cong : (k : ℕ) (f f' g g' : ℕ → K) → ((i : ℕ) → i ≤ k → f i ≡ f' i) → ((i : ℕ) → i ≤ k → g i ≡ g' i) → conv k f g ≡ conv k f' g'
  unfolding P.conv
  conv_cong zero f f' g g' p q = ap₂ ◌⊗◌ (p 0 (omega arith)) (q 0 (omega arith))
  conv_cong (suc k) f f' g g' p q =
      ap₂ ◌⊕◌ (ap₂ ◌⊗◌ (p 0 (omega arith)) (q (suc k) (omega arith)))
      (conv_cong k (tl f) (tl f') g g' (λ i h. p (suc i) (omega arith)) (λ i h. q i (omega arith)))

  -- every product vanishes; every product but one vanishes
  pub conv_zero : (k : ℕ) (f g : ℕ → K) → ((i j : ℕ) → i + j ≡ k → f i ⊗ g j ≡ 𝟘) → conv k f g ≡ 𝟘
  unfolding P.conv
  conv_zero zero f g z = z 0 0 refl
  conv_zero (suc k) f g z = ap₂ ◌⊕◌ (z 0 (suc k) (omega arith)) (conv_zero k (tl f) g (λ i j e. z (suc i) j (omega arith))) ∙ add_o 𝟘

  pub conv_one : (k p q : ℕ) (f g : ℕ → K) → p + q ≡ k → ((i j : ℕ) → i + j ≡ k → ¬ (i ≡ p) → f i ⊗ g j ≡ 𝟘) → conv k f g ≡ f p ⊗ g q
  unfolding P.conv
  conv_one zero p q f g e z = ap₂ {A = ℕ} {B = ℕ} (λ a b. f a ⊗ g b) (omega arith) (omega arith)
  conv_one (suc k) zero q f g e z = ap₂ ◌⊕◌ (ap (λ j. f 0 ⊗ g j) (omega arith)) (conv_zero k (tl f) g (λ i j h. z (suc i) j (omega arith) (omega arith))) ∙ add_o _
  conv_one (suc k) (suc p) q f g e z = ap₂ ◌⊕◌ (z 0 (suc k) (omega arith) (omega arith)) (conv_one k p q (tl f) g (omega arith) (λ i j h ne. z (suc i) j (omega arith) (omega arith))) ∙ o_add _
