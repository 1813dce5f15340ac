-- A field over a carrier: two operations, their neutral elements, opposites and inverses.
use Rattle.std.specs.Prelude.{◌≡◌}

pub record Field (K : Type 0) : Type 0 where
  infixl 60 ◌⊕◌
  infixl 70 ◌⊗◌
  pub 𝟘 : K
  pub 𝟙 : K
  pub ◌⊕◌ : K → K → K
  pub ◌⊗◌ : K → K → K
  pub neg : K → K
  pub inv : K → K
  pub add_assoc : (x y z : K) → (x ⊕ y) ⊕ z ≡ x ⊕ (y ⊕ z)
  pub add_comm : (x y : K) → x ⊕ y ≡ y ⊕ x
  pub add_o : (x : K) → x ⊕ 𝟘 ≡ x
  pub add_neg : (x : K) → x ⊕ neg x ≡ 𝟘
  pub mul_assoc : (x y z : K) → (x ⊗ y) ⊗ z ≡ x ⊗ (y ⊗ z)
  pub mul_comm : (x y : K) → x ⊗ y ≡ y ⊗ x
  pub mul_one : (x : K) → x ⊗ 𝟙 ≡ x
  pub mul_add : (x y z : K) → x ⊗ (y ⊕ z) ≡ (x ⊗ y) ⊕ (x ⊗ z)
  pub mul_inv : (x : K) → ¬ (x ≡ 𝟘) → x ⊗ inv x ≡ 𝟙
  pub one_ne : ¬ (𝟙 ≡ 𝟘)
  pub eq? : (x y : K) → Dec (x ≡ y)
