-- The laws of polynomials over two elements modulo p of degree k = suc d, from a few tests at k and p.
use Rattle.std.proofs.Common.{◌≡◌, ℕ, zero, suc, ◌+◌, ◌-◌, ◌*◌, ◌/◌, ◌%◌, ◌^◌, ◌<◌, ◌≤◌, Bool, true, false, cond, eqb, ltb, sym, refl, ap, ◌∙◌, subst, ap₂, add-zero, mod-lt, arith, lit<, lit≤}
use native.Mathlib.Nat.{zero-div}
use lib.Bits.{bit_xor, xor_comm, xor_assoc, xor_zero_r, xor_self, xor_lt, xor_mod, xor_shr, xor_block}
use Rattle.std.proofs.lemmas.Nat.{pow_pos, shr_below}
use Rattle.std.proofs.lemmas.Bool.{eqb-true, ltb-true}
use Rattle.field.specs.Meaning.{Laws, pow}
use Rattle.field.proofs.Tests.{each, at}
use Rattle.field.proofs.Order.{Multiplies, no_one, early_from, nonzero, apart}
use Rattle.field.proofs.Reciprocals.{all_turned, recip_found}
use Rattle.binary.specs.Polynomials.{shifted, terms, product, binary}

-- ---- sums

swap : (a b c d : ℕ) → bit_xor (bit_xor a b) (bit_xor c d) ≡ bit_xor (bit_xor a c) (bit_xor b d)
swap a b c d =
    xor_assoc a b (bit_xor c d)
    ∙ ap (bit_xor a) (sym (xor_assoc b c d) ∙ ap (λ (x : ℕ). bit_xor x d) (xor_comm b c) ∙ xor_assoc c b d)
    ∙ sym (xor_assoc a c (bit_xor b d))

-- moved up by one place
moved : (v w : ℕ) → bit_xor (v * 2) (w * 2) ≡ bit_xor v w * 2
moved v w =
    ap₂ bit_xor (sym (add-zero (v * 2))) (sym (add-zero (w * 2))) ∙ xor_block 1 v w 0 0 (lit< tt) (lit< tt) ∙ add-zero (bit_xor v w * 2)

-- ---- a term

abbrev term : Bool → ℕ → ℕ
term b v = cond b v 0

term_xor : (b : Bool) (v w : ℕ) → term b (bit_xor v w) ≡ bit_xor (term b v) (term b w)
term_xor true v w = refl
term_xor false v w = refl

term_zero : (b : Bool) → term b 0 ≡ 0
term_zero true = refl
term_zero false = refl

-- the term that a bit asks for, where the bit is a sum
parity : (a b v : ℕ) → a < 2 → b < 2 → term (eqb (bit_xor a b) 1) v ≡ bit_xor (term (eqb a 1) v) (term (eqb b 1) v)
parity zero b v ha hb = refl
parity (suc zero) zero v ha hb = sym (xor_zero_r v)
parity (suc zero) (suc zero) v ha hb = sym (xor_self v)
parity (suc zero) (suc (suc b)) v ha hb = absurd (omega arith)
parity (suc (suc a)) b v ha hb = absurd (omega arith)

-- the tests at a degree and a modulus: x times a symbol is a symbol, 1 is neutral, no power of x below the last is 1, and each symbol has a reciprocal
pub record Passes (k p : ℕ) : Type 0 where
  pub degree : 0 < k
  pub low : 2 < 2 ^ k
  pub high : 2 ^ k ≤ 1024
  pub shifted_in : each (2 ^ k) (λ v. ltb (shifted k p v) (2 ^ k)) ≡ true
  pub one : each (2 ^ k) (λ v. eqb (product k p 1 v) v) ≡ true
  pub round : pow (binary k p) 2 (2 ^ k - 1) ≡ 1
  pub early : no_one (binary k p) (2 ^ k - 1 - 1) (pow (binary k p) 2 1) ≡ true
  pub turned : all_turned (binary k p) k ≡ true

module _ (k p : ℕ) (t : Passes k p) where
  abbrev In : ℕ → Type 0
  In v = v < 2 ^ k

  abbrev x· : ℕ → ℕ
  x· = shifted k p

  zero_in : In 0
  zero_in = pow_pos k

  term_in : (b : Bool) (v : ℕ) → In v → In (term b v)
  term_in true v h = h
  term_in false v h = zero_in

  -- ---- times x

  pub x_in : (v : ℕ) → In v → In (x· v)
  x_in v h = ltb-true _ _ (at (2 ^ k) (λ w. ltb (shifted k p w) (2 ^ k)) t.shifted_in v h)

  -- the coefficient of the highest degree is a bit
  high_in : (v : ℕ) → In v → v / 2 ^ (k - 1) < 2
  high_in v h =
      let pos = t.degree in
      let e : k ≡ 1 + (k - 1) = omega arith in
      shr_below v 1 (k - 1) (subst (λ n. v < 2 ^ n) e h)

  x_xor : (v w : ℕ) → In v → In w → x· (bit_xor v w) ≡ bit_xor (x· v) (x· w)
  unfolding shifted
  x_xor v w hv hw =
      ap₂ bit_xor (sym (moved v w))
      (ap (λ (b : ℕ). term (eqb b 1) p) (xor_shr v w (k - 1)) ∙ parity (v / 2 ^ (k - 1)) (w / 2 ^ (k - 1)) p (high_in v hv) (high_in w hw))
      ∙ swap (v * 2) (w * 2) (term (eqb (v / 2 ^ (k - 1)) 1) p) (term (eqb (w / 2 ^ (k - 1)) 1) p)

  x_zero : x· 0 ≡ 0
  unfolding shifted
  x_zero = rw (zero-div (2 ^ (k - 1)))

  x_term : (b : Bool) (v : ℕ) → term b (x· v) ≡ x· (term b v)
  x_term true v = refl
  x_term false v = sym x_zero

  -- ---- products

  abbrev bit : ℕ → Bool
  bit w = eqb (w % 2) 1

  prod_in : (n v w : ℕ) → In v → In (terms k p n v w)
  prod_in zero v w h = zero_in
  prod_in (suc n) v w h = xor_lt k _ _ (term_in (bit w) v h) (prod_in n (x· v) (w / 2) (x_in v h))

  prod_xor_l : (n u v w : ℕ) → In u → In v → terms k p n (bit_xor u v) w ≡ bit_xor (terms k p n u w) (terms k p n v w)
  prod_xor_l zero u v w hu hv = refl
  prod_xor_l (suc n) u v w hu hv =
      ap₂ bit_xor (term_xor (bit w) u v)
      (ap (λ (d : ℕ). terms k p n d (w / 2)) (x_xor u v hu hv) ∙ prod_xor_l n (x· u) (x· v) (w / 2) (x_in u hu) (x_in v hv))
      ∙ swap (term (bit w) u) (term (bit w) v) (terms k p n (x· u) (w / 2)) (terms k p n (x· v) (w / 2))

  prod_xor_r : (n u v w : ℕ) → terms k p n u (bit_xor v w) ≡ bit_xor (terms k p n u v) (terms k p n u w)
  prod_xor_r zero u v w = refl
  prod_xor_r (suc n) u v w =
      ap₂ bit_xor (ap (λ (d : ℕ). term (eqb d 1) u) (xor_mod v w 1) ∙ parity (v % 2) (w % 2) u (mod-lt v (lit< tt)) (mod-lt w (lit< tt)))
      (ap (terms k p n (x· u)) (xor_shr v w 1) ∙ prod_xor_r n (x· u) (v / 2) (w / 2))
      ∙ swap (term (bit v) u) (term (bit w) u) (terms k p n (x· u) (v / 2)) (terms k p n (x· u) (w / 2))

  prod_x : (n v w : ℕ) → In v → terms k p n (x· v) w ≡ x· (terms k p n v w)
  prod_x zero v w h = sym x_zero
  prod_x (suc n) v w h =
      ap₂ bit_xor (x_term (bit w) v) (prod_x n (x· v) (w / 2) (x_in v h))
      ∙ sym (x_xor (term (bit w) v) (terms k p n (x· v) (w / 2)) (term_in (bit w) v h) (prod_in n (x· v) (w / 2) (x_in v h)))

  zero_prod : (n w : ℕ) → terms k p n 0 w ≡ 0
  zero_prod zero w = refl
  zero_prod (suc n) w = ap₂ bit_xor (term_zero (bit w)) (ap (λ (d : ℕ). terms k p n d (w / 2)) x_zero ∙ zero_prod n (w / 2))

  term_prod : (b : Bool) (n v w : ℕ) → terms k p n (term b v) w ≡ term b (terms k p n v w)
  term_prod true n v w = refl
  term_prod false n v w = zero_prod n w

  -- two factors in turn, in either order
  slide : (m n u v w : ℕ) → In u → terms k p m (terms k p n u v) w ≡ terms k p n (terms k p m u w) v
  slide m zero u v w h = zero_prod m w
  slide m (suc n) u v w h =
      prod_xor_l m (term (bit v) u) (terms k p n (x· u) (v / 2)) w (term_in (bit v) u h) (prod_in n (x· u) (v / 2) (x_in u h))
      ∙ ap₂ bit_xor (term_prod (bit v) m u w)
      (slide m n (x· u) (v / 2) w (x_in u h) ∙ ap (λ (d : ℕ). terms k p n d (v / 2)) (prod_x m u w h))

  -- ---- the laws

  one_in : In 1
  one_in = omega (arith, t.low)

  in_product : (v w : ℕ) → In v → In (product k p v w)
  unfolding product
  in_product v w h = prod_in k v w h

  slides : (u v w : ℕ) → In u → product k p (product k p u v) w ≡ product k p (product k p u w) v
  unfolding product
  slides u v w h = slide k k u v w h

  one_left : (v : ℕ) → In v → product k p 1 v ≡ v
  one_left v h = eqb-true _ v (at (2 ^ k) (λ w. eqb (product k p 1 w) w) t.one v h)

  pub zero_left : (v : ℕ) → product k p 0 v ≡ 0
  unfolding product
  zero_left v = zero_prod k v

  comm : (v w : ℕ) → In v → In w → product k p v w ≡ product k p w v
  comm v w hv hw =
      ap (λ (d : ℕ). product k p d w) (sym (one_left v hv)) ∙ slides 1 v w one_in ∙ ap (λ (d : ℕ). product k p d v) (one_left w hw)

  assoc : (u v w : ℕ) → In u → In v → In w → product k p (product k p u v) w ≡ product k p u (product k p v w)
  assoc u v w hu hv hw =
      ap (λ (d : ℕ). product k p d w) (comm u v hu hv) ∙ slides v u w hv ∙ comm (product k p v w) u (in_product v w hv) hu

  one_right : (v : ℕ) → In v → product k p v 1 ≡ v
  one_right v h = comm v 1 h one_in ∙ one_left v h

  distrib : (u v w : ℕ) → product k p u (bit_xor v w) ≡ bit_xor (product k p u v) (product k p u w)
  unfolding product
  distrib u v w = prod_xor_r k u v w

  multiplies : Multiplies (binary k p)
  multiplies = record {
    one_in = one_in;
    a_in = t.low;
    prod_in = λ v w hv hw. in_product v w hv;
    prod_assoc = assoc;
    one_prod = one_left;
    prod_one = one_right;
    zero_prod = λ v hv. zero_left v;
    round = t.round;
    early = early_from (binary k p) t.early;
  }

  pub laws : Laws (binary k p)
  laws = record {
    q_low = one_in;
    q_high = t.high;
    a_low = lit≤ tt;
    a_high = t.low;
    m_low = omega (arith, t.low);
    m_high = omega (arith, t.low);
    sum_in = λ v w hv hw. xor_lt k v w hv hw;
    prod_in = λ v w hv hw. in_product v w hv;
    opp_in = λ v hv. hv;
    recip_in = λ v hv nz. (recip_found (binary k p) k t.turned v hv nz).0;
    sum_comm = λ v w hv hw. xor_comm v w;
    sum_assoc = λ u v w hu hv hw. xor_assoc u v w;
    prod_comm = comm;
    prod_assoc = assoc;
    sum_zero = λ v hv. xor_zero_r v;
    prod_one = one_right;
    sum_opp = λ v hv. xor_self v;
    prod_recip = λ v hv nz. (recip_found (binary k p) k t.turned v hv nz).1;
    distrib = λ u v w hu hv hw. distrib u v w;
    pow_nonzero = nonzero (binary k p) multiplies;
    pow_apart = apart (binary k p) multiplies;
    pow_round = t.round;
  }
