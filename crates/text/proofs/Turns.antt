-- The turns of the loop that reads numbers: what it holds at each byte, and what that says at the end.
use Rattle.std.proofs.Common.{◌≡◌, ℕ, ◌+◌, ◌*◌, ◌^◌, ◌<◌, ◌≤◌, List, [], ◌∷◌, ◌++◌, length, get_or, drop, Some, None, Option, sym, refl, ap, ◌∙◌, append_assoc, arith, pow-add}
use Rattle.std.specs.Int.{IsInRange}
use Rattle.std.specs.Char.{digit_value}
use Rattle.std.proofs.lemmas.List.{at_drop_more, at_drop_all}
use Rattle.std.proofs.lemmas.Str.{digit_value_digit}
use Rattle.text.proofs.Reading.{onto, reads, reads_digit, reads_space, reads_end, reads_none, reads_stray}

-- at byte i of rest, after the numbers and the first digits of one more, which write v: what is to be read is not lost
pub record Held (rest numbers : List ℕ) (v digits i : ℕ) : Type 0 where
  pub whole : onto numbers (reads v digits (drop i rest)) ≡ reads 0 0 rest
  pub small : v < 10 ^ digits
  pub few : digits ≤ 5

onto_nil : (o : Option (List ℕ)) → onto [] o ≡ o
onto_nil None = refl
onto_nil (Some ns) = refl

onto_onto : (ns ms : List ℕ) (o : Option (List ℕ)) → onto ns (onto ms o) ≡ onto (ns ++ ms) o
onto_onto ns ms None = refl
onto_onto ns ms (Some ls) = ap (λ (l : List ℕ). Some l) (sym (append_assoc ns ms ls))

pub held_start : (rest ns : List ℕ) → ns ≡ [] → Held rest ns 0 0 0
held_start rest ns e = record { whole = ap (λ (l : List ℕ). onto l (reads 0 0 rest)) e ∙ onto_nil (reads 0 0 rest); small = omega arith; few = omega arith }

held_as : {rest ms ns : List ℕ} {w v e d i : ℕ} → ms ≡ ns → w ≡ v → e ≡ d → Held rest ns v d i → Held rest ms w e i
held_as p q r h = rw (p, q, r) h

module _ (rest ns : List ℕ) (v d i : ℕ) (h : Held rest ns v d i) where
  -- at a byte
  module _ (within : i < length rest) where
    here : onto ns (reads v d (get_or rest i 0 ∷ drop (i + 1) rest)) ≡ reads 0 0 rest
    here = ap (onto ns) (sym (at_drop_more (reads v d) rest i 0 within)) ∙ h.whole

    pub held_digit : (ms : List ℕ) (w e x : ℕ) → IsInRange 48 57 (get_or rest i 0) → d < 5 → ms ≡ ns → w ≡ v * 10 + x → x + 48 ≡ get_or rest i 0 → e ≡ d + 1 → Held rest ms w e (i + 1)
    held_digit ms w e x digit few same next is one =
        let worth : x ≡ digit_value (get_or rest i 0) = omega (arith, digit_value_digit _ digit) in
        let step = reads_digit v d (get_or rest i 0) (drop (i + 1) rest) digit few in
        held_as same (next ∙ ap (λ (n : ℕ). v * 10 + n) worth) one (record {
          whole = ap (onto ns) (sym step) ∙ here;
          small = omega (arith, h.small, pow-add 10 d 1, digit_value_digit _ digit);
          few = omega arith;
        })

    pub held_space : (ms : List ℕ) (w e : ℕ) → get_or rest i 0 ≡ 32 → 0 < d → ms ≡ ns ++ v ∷ [] → w ≡ 0 → e ≡ 0 → Held rest ms w e (i + 1)
    held_space ms w e space some is zero none =
        let step = ap (λ (c : ℕ). reads v d (c ∷ drop (i + 1) rest)) space ∙ reads_space v d (drop (i + 1) rest) some in
        held_as is zero none (record {
          whole = sym (onto_onto ns (v ∷ []) _) ∙ ap (onto ns) (sym step) ∙ here;
          small = omega arith;
          few = omega arith;
        })

    pub held_stray : (IsInRange 48 57 (get_or rest i 0) → d < 5 → ⊥) → (get_or rest i 0 ≡ 32 → 0 < d → ⊥) → reads 0 0 rest ≡ None
    held_stray digit space = sym here ∙ ap (onto ns) (reads_stray v d _ _ digit space)

  -- past the last byte
  module _ (past : length rest ≤ i) where
    over : onto ns (reads v d []) ≡ reads 0 0 rest
    over = ap (onto ns) (sym (at_drop_all (reads v d) rest i past)) ∙ h.whole

    pub held_end : 0 < d → reads 0 0 rest ≡ Some (ns ++ v ∷ [])
    held_end some = sym over ∙ ap (onto ns) (reads_end v d some)

    pub held_short : d ≡ 0 → reads 0 0 rest ≡ None
    held_short none = sym over ∙ ap (λ (n : ℕ). onto ns (reads v n [])) none ∙ ap (onto ns) (reads_none v)
