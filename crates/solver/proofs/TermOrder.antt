-- The order r on terms, told on natural numbers: r = l - m. Every pair that is not zero has a leading term.
use Rattle.std.proofs.Common.{◌≡◌, ℕ, zero, suc, ◌+◌, ◌*◌, ◌<◌, ◌≤◌, ◌≢◌, ◌⊎◌, List, [], ◌∷◌, get_or, ℤ, pos, negsuc, ◌+ℤ◌, ◌≤ℤ◌, ◌<ℤ◌, refl, ap, inl, inr, arith}
use native.Mathlib.Decide.{dec_le, ℕ_discrete}
use Rattle.std.proofs.lemmas.Int.{ints}
use Rattle.solver.specs.Pairs.{Term, left, right, Lower, Leads, NonZero, EveryPairLeads, at}

module _ (r : ℤ) (l m : ℕ) (e : pos l ≡ r +ℤ pos m) where
  pub le_in : (i j : ℕ) → i + m ≤ j + l → pos i ≤ℤ (pos j +ℤ r)
  le_in i j h = omega (arith, ints)

  pub le_out : (i j : ℕ) → pos i ≤ℤ (pos j +ℤ r) → i + m ≤ j + l
  le_out i j h = omega (arith, ints)

  pub lt_in : (i j : ℕ) → i + l < j + m → (pos i +ℤ r) <ℤ pos j
  lt_in i j h = omega (arith, ints)

  pub lt_out : (i j : ℕ) → (pos i +ℤ r) <ℤ pos j → i + l < j + m
  lt_out i j h = omega (arith, ints)

-- a term's place in the order
unfoldable pub weight : ℕ → ℕ → Term → ℕ
weight l m (left i) = 2 * (i + m)
weight l m (right j) = 2 * (j + l) + 1

module _ (r : ℤ) (l m : ℕ) (e : pos l ≡ r +ℤ pos m) where
  pub lower_in : (s t : Term) → weight l m s < weight l m t → Lower r s t
  unfolding weight
  lower_in (left i) (left j) h = omega arith
  lower_in (left i) (right j) h = le_in r l m e i j (omega arith)
  lower_in (right i) (left j) h = lt_in r l m e i j (omega arith)
  lower_in (right i) (right j) h = omega arith

  pub lower_out : (s t : Term) → Lower r s t → weight l m s < weight l m t
  unfolding weight
  lower_out (left i) (left j) h = omega arith
  lower_out (left i) (right j) h = let k = le_out r l m e i j h in omega arith
  lower_out (right i) (left j) h = let k = lt_out r l m e i j h in omega arith
  lower_out (right i) (right j) h = omega arith

pub weight_same : (l m : ℕ) (s t : Term) → weight l m s ≡ weight l m t → s ≡ t
unfolding weight
weight_same l m (left i) (left j) h = ap left (omega arith)
weight_same l m (left i) (right j) h = absurd (omega arith)
weight_same l m (right i) (left j) h = absurd (omega arith)
weight_same l m (right i) (right j) h = ap right (omega arith)

-- every r is such a difference
pub differs : (r : ℤ) → (l : ℕ) × (m : ℕ) × (pos l ≡ r +ℤ pos m)
differs (pos k) = (k, 0, omega (arith, ints))
differs (negsuc k) = (0, suc k, omega (arith, ints))

-- the highest place of a row that is not 0
record Top (xs : List ℕ) : Type 0 where
  place : ℕ
  there : get_or xs place 0 ≢ 0
  above : (j : ℕ) → place < j → get_or xs j 0 ≡ 0

none_more : (x : ℕ) (xs : List ℕ) → x ≡ 0 → ((i : ℕ) → get_or xs i 0 ≡ 0) → (i : ℕ) → get_or (x ∷ xs) i 0 ≡ 0
none_more x xs e z zero = e
none_more x xs e z (suc i) = z i

above_first : (x : ℕ) (xs : List ℕ) → ((i : ℕ) → get_or xs i 0 ≡ 0) → (j : ℕ) → 0 < j → get_or (x ∷ xs) j 0 ≡ 0
above_first x xs z zero h = absurd (omega arith)
above_first x xs z (suc j) h = z j

above_more : (x : ℕ) (xs : List ℕ) (p : ℕ) → ((j : ℕ) → p < j → get_or xs j 0 ≡ 0) → (j : ℕ) → suc p < j → get_or (x ∷ xs) j 0 ≡ 0
above_more x xs p z zero h = absurd (omega arith)
above_more x xs p z (suc j) h = z j (omega arith)

top_of : (xs : List ℕ) → ((i : ℕ) → get_or xs i 0 ≡ 0) ⊎ Top xs
top_of [] = inl (λ i. refl)
top_of (x ∷ xs) = elim (top_of xs) [
  | inl z ↦ elim (ℕ_discrete x 0) [
    | yes e ↦ inl (none_more x xs e z)
    | no ne ↦ inr (record { place = 0; there = ne; above = above_first x xs z })
  ]
  | inr t ↦ inr (record { place = suc t.place; there = t.there; above = above_more x xs t.place t.above })
]

module _ (r : ℤ) (l m : ℕ) (e : pos l ≡ r +ℤ pos m) (a b : List ℕ) where
  left_leads : (t : Top a) → ((j : ℕ) → t.place + m ≤ j + l → get_or b j 0 ≡ 0) → Leads r a b (left t.place)
  left_leads t other = record { there = t.there; above = up }
    where
      up : (s : Term) → Lower r (left t.place) s → at a b s ≡ 0
      up (left i) h = t.above i h
      up (right j) h = other j (le_out r l m e t.place j h)

  right_leads : (t : Top b) → ((i : ℕ) → t.place + l < i + m → get_or a i 0 ≡ 0) → Leads r a b (right t.place)
  right_leads t other = record { there = t.there; above = up }
    where
      up : (s : Term) → Lower r (right t.place) s → at a b s ≡ 0
      up (left i) h = other i (lt_out r l m e t.place i h)
      up (right j) h = t.above j h

  no_term : ((i : ℕ) → get_or a i 0 ≡ 0) → ((j : ℕ) → get_or b j 0 ≡ 0) → (t : Term) → at a b t ≡ 0
  no_term za zb (left i) = za i
  no_term za zb (right j) = zb j

  leading : NonZero a b → (t : Term) × Leads r a b t
  leading some = elim (top_of a) [
    | inl za ↦ elim (top_of b) [
      | inl zb ↦ absurd (some.1 (no_term za zb some.0))
      | inr tb ↦ (right tb.place, right_leads tb (λ i _. za i))
    ]
    | inr ta ↦ elim (top_of b) [
      | inl zb ↦ (left ta.place, left_leads ta (λ j _. zb j))
      | inr tb ↦ elim (dec_le (ta.place + m) (tb.place + l)) [
        | yes h ↦ (right tb.place, right_leads tb (λ i k. ta.above i (omega arith)))
        | no h ↦ (left ta.place, left_leads ta (λ j k. tb.above j (omega arith)))
      ]
    ]
  ]

pub every_pair_leads : EveryPairLeads
every_pair_leads r a b some = let d = differs r in leading r d.0 d.1 d.2 a b some
