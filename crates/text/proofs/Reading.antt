-- Numbers read byte by byte: what is read is what the text spells, and nothing is read where it spells nothing.
use Rattle.std.proofs.Common.{◌≡◌, ℕ, ◌+◌, ◌*◌, ◌<◌, ◌≤◌, Bool, true, false, cond, ◌&&◌, eqb, ltb, leb, List, [], ◌∷◌, ◌++◌, map, length, Some, None, Option, sym, refl, ap, ◌∙◌, subst, inl, inr, append_assoc, arith}
use Rattle.std.specs.Str.Parse.{AllDigits, digits_value, digits_value_after}
use Rattle.std.specs.Int.{IsInRange}
use Rattle.std.specs.Char.{digit_value, is_ascii_digit}
use Rattle.std.specs.List.{flat_map, AllByRecursion}
use Rattle.std.specs.Str.{all_ascii_digits}
use Rattle.std.proofs.lemmas.Int.Digits.{digits_value_push, digits_push}
use Rattle.std.proofs.lemmas.List.{length_push}
use Rattle.std.proofs.lemmas.Str.Parse.{IsNumeralModel, numerals_by_value, tells_all_ascii_digits, digit_from_value}
use Rattle.std.proofs.lemmas.Str.{digit_value_digit}
use Rattle.std.proofs.lemmas.Bool.{ltb-true, leb-true, eqb-true, eqb-false, ne_eqb, lt-ltb, le-leb, and_from, and_parts, cases_Bool, cond-true, cond-false, false_from_ne_true}
use Rattle.std.proofs.lemmas.Option.{none-some}
use Rattle.text.specs.Lines.{Numeral, Spells, SpellsNothing}

-- the numbers ns, and then those that were found
abbrev pub onto : List ℕ → Option (List ℕ) → Option (List ℕ)
onto ns None = None
onto ns (Some ms) = Some (ns ++ ms)

-- c goes on with a numeral of d digits
abbrev goes_on : ℕ → ℕ → Bool
goes_on d c = is_ascii_digit c && ltb d 5

-- c ends a numeral of d digits
abbrev ends : ℕ → ℕ → Bool
ends d c = eqb c 32 && ltb 0 d

-- the numbers of a text, the first d digits of the first of which were read before, and write v
unfoldable pub reads : ℕ → ℕ → List ℕ → Option (List ℕ)
reads v d [] = cond (eqb d 0) None (Some (v ∷ []))
reads v d (c ∷ cs) = cond (goes_on d c) (reads (v * 10 + digit_value c) (d + 1) cs) (cond (ends d c) (onto (v ∷ []) (reads 0 0 cs)) None)

-- the numbers of a text that begins with a space, if it is not empty
unfoldable found : List ℕ → Option (List ℕ)
found [] = Some []
found (c ∷ cs) = cond (eqb c 32) (reads 0 0 cs) None

-- the steps
digit_in : (c : ℕ) → IsInRange 48 57 c → is_ascii_digit c ≡ true
digit_in c h = and_from _ _ (le-leb 48 c h.0) (le-leb c 57 h.1)

in_digit : (c : ℕ) → is_ascii_digit c ≡ true → IsInRange 48 57 c
in_digit c e = let p = and_parts (leb 48 c) (leb c 57) e in (leb-true 48 c p.0, leb-true c 57 p.1)

pub reads_digit : (v d c : ℕ) (cs : List ℕ) → IsInRange 48 57 c → d < 5 → reads v d (c ∷ cs) ≡ reads (v * 10 + digit_value c) (d + 1) cs
unfolding reads
reads_digit v d c cs h few = cond-true (goes_on d c) _ _ (and_from _ _ (digit_in c h) (lt-ltb d 5 few))

pub reads_space : (v d : ℕ) (cs : List ℕ) → 0 < d → reads v d (32 ∷ cs) ≡ onto (v ∷ []) (reads 0 0 cs)
unfolding reads
reads_space v d cs some = cond-true (ends d 32) _ _ (lt-ltb 0 d some)

pub reads_end : (v d : ℕ) → 0 < d → reads v d [] ≡ Some (v ∷ [])
unfolding reads
reads_end v d some = cond-false (eqb d 0) _ _ (ne_eqb d 0 (λ e. omega arith))

pub reads_none : (v : ℕ) → reads v 0 [] ≡ None
unfolding reads
reads_none v = refl

pub reads_stray : (v d c : ℕ) (cs : List ℕ) → (IsInRange 48 57 c → d < 5 → ⊥) → (c ≡ 32 → 0 < d → ⊥) → reads v d (c ∷ cs) ≡ None
unfolding reads
reads_stray v d c cs digit space =
    let far : goes_on d c ≡ false = false_from_ne_true _ (λ e. let p = and_parts (is_ascii_digit c) (ltb d 5) e in digit (in_digit c p.0) (ltb-true d 5 p.1)) in
    let same : ends d c ≡ false = false_from_ne_true _ (λ e. let p = and_parts (eqb c 32) (ltb 0 d) e in space (eqb-true c 32 p.0) (ltb-true 0 d p.1)) in
    cond-false (goes_on d c) _ _ far ∙ cond-false (ends d c) _ _ same

-- allDigits in the words of the library's lemmas
numerals : IsNumeralModel (λ ds. all_ascii_digits ds ≡ true) (digits_value 10)
numerals = numerals_by_value _ tells_all_ascii_digits

-- what is read is spelled, where the digits before were `begun`
one_numeral : (begun : List ℕ) → AllDigits 10 begun → 0 < length begun → length begun ≤ 5 → Numeral begun
one_numeral begun ds some few = record { some = some; few = few; digits = numerals.from begun ds }

pub spells_none : Spells [] []
spells_none = record { numerals = []; each = tt; written = refl; read = refl }

spells_more : (begun text rest ms ns : List ℕ) → Numeral begun → rest ≡ text → Spells text ms → ns ≡ digits_value 10 begun ∷ ms → Spells (32 ∷ (begun ++ rest)) ns
spells_more begun text rest ms ns n same s is = record {
  numerals = begun ∷ s.numerals;
  each = (n, s.each);
  written = ap (λ (l : List ℕ). 32 ∷ (begun ++ l)) (same ∙ s.written);
  read = is ∙ ap (λ (l : List ℕ). digits_value 10 begun ∷ l) s.read;
}

same_some : {X : Type 0} (x y : X) → Some x ≡ Some y → x ≡ y
same_some x y e = cc

onto_some : (v : ℕ) (o : Option (List ℕ)) (ns : List ℕ) → onto (v ∷ []) o ≡ Some ns → (ms : List ℕ) × (o ≡ Some ms) × (ns ≡ v ∷ ms)
onto_some v None ns e = absurd (none-some ns e)
onto_some v (Some ms) ns e = (ms, refl, sym (same_some (v ∷ ms) ns e))

sound : (text : List ℕ) (v d : ℕ) (ns begun : List ℕ) → reads v d text ≡ Some ns → AllDigits 10 begun → length begun ≡ d → d ≤ 5 → digits_value 10 begun ≡ v → Spells (32 ∷ (begun ++ text)) ns
unfolding reads
sound [] v d ns begun e ds count few is =
    elim (cases_Bool (eqb d 0)) [
      | inl t ↦ absurd (none-some ns (sym (cond-true (eqb d 0) None (Some (v ∷ [])) t) ∙ e))
      | inr f ↦
          let one : v ∷ [] ≡ ns = same_some _ _ (sym (cond-false (eqb d 0) None (Some (v ∷ [])) f) ∙ e) in
          let some : 0 < length begun = omega (arith, eqb-false d 0 f) in
          spells_more begun [] [] [] ns (one_numeral begun ds some (omega arith)) refl spells_none (sym one ∙ ap (λ (n : ℕ). n ∷ []) (sym is))
    ]
sound (c ∷ cs) v d ns begun e ds count few is =
    elim (cases_Bool (goes_on d c)) [
      | inl t ↦
          let p = and_parts (is_ascii_digit c) (ltb d 5) t in
          let digit : digit_value c < 10 = omega (arith, digit_value_digit c (in_digit c p.0), in_digit c p.0) in
          let next = sound cs (v * 10 + digit_value c) (d + 1) ns (begun ++ (c ∷ [])) (sym (cond-true (goes_on d c) _ _ t) ∙ e) (digits_push 10 begun c ds digit)
          (length_push begun c ∙ ap (λ (n : ℕ). n + 1) count) (omega (arith, ltb-true d 5 p.1)) (digits_value_push 10 begun c ∙ ap (λ (n : ℕ). n * 10 + digit_value c) is)
          in subst (λ (l : List ℕ). Spells (32 ∷ l) ns) (append_assoc begun (c ∷ []) cs) next
      | inr f ↦
          let rest = sym (cond-false (goes_on d c) _ _ f) ∙ e in
          elim (cases_Bool (ends d c)) [
            | inl t ↦
                let p = and_parts (eqb c 32) (ltb 0 d) t in
                let k = onto_some v (reads 0 0 cs) ns (sym (cond-true (ends d c) _ _ t) ∙ rest) in
                let after = sound cs 0 0 k.0 [] k.1 tt refl (omega arith) refl in
                let numeral = one_numeral begun ds (omega (arith, ltb-true 0 d p.1)) (omega arith) in
                spells_more begun (32 ∷ cs) (c ∷ cs) k.0 ns numeral (ap (λ (n : ℕ). n ∷ cs) (eqb-true c 32 p.0)) after (k.2 ∙ ap (λ (n : ℕ). n ∷ k.0) (sym is))
            | inr g ↦ absurd (none-some ns (sym (cond-false (ends d c) _ _ g) ∙ rest))
          ]
    ]

-- what is spelled is read
reads_digits : (ds rest : List ℕ) (v d : ℕ) → AllDigits 10 ds → d + length ds ≤ 5 → reads v d (ds ++ rest) ≡ reads (digits_value_after 10 v ds) (d + length ds) rest
reads_digits [] rest v d h few = ap (λ (n : ℕ). reads v n rest) (omega arith)
reads_digits (c ∷ cs) rest v d h few =
    reads_digit v d c (cs ++ rest) (digit_from_value c h.0) (omega arith)
    ∙ reads_digits cs rest (v * 10 + digit_value c) (d + 1) h.1 (omega arith)
    ∙ ap (λ (n : ℕ). reads (digits_value_after 10 v (c ∷ cs)) n rest) (omega arith)

abbrev written : List (List ℕ) → List ℕ
written = flat_map (λ ds. 32 ∷ ds)

reads_numeral : (ds rest : List ℕ) → Numeral ds → reads 0 0 (ds ++ rest) ≡ reads (digits_value 10 ds) (length ds) rest
reads_numeral ds rest n = reads_digits ds rest 0 0 (numerals.to ds n.digits) (omega (arith, n.few)) ∙ ap (λ (k : ℕ). reads (digits_value 10 ds) k rest) (omega arith)

reads_all : (nss : List (List ℕ)) (v d : ℕ) → 0 < d → AllByRecursion Numeral nss → reads v d (written nss) ≡ Some (v ∷ map (digits_value 10) nss)
reads_all [] v d some each = reads_end v d some
reads_all (ds ∷ nss) v d some each =
    reads_space v d (ds ++ written nss) some
    ∙ ap (onto (v ∷ [])) (reads_numeral ds (written nss) each.0 ∙ reads_all nss (digits_value 10 ds) (length ds) each.0.some each.1)

found_all : (nss : List (List ℕ)) → AllByRecursion Numeral nss → found (written nss) ≡ Some (map (digits_value 10) nss)
unfolding found
found_all [] each = refl
found_all (ds ∷ nss) each = reads_numeral ds (written nss) each.0 ∙ reads_all nss (digits_value 10 ds) (length ds) each.0.some each.1

found_complete : (text ns : List ℕ) → Spells text ns → found text ≡ Some ns
found_complete text ns s = ap found s.written ∙ found_all s.numerals s.each ∙ ap (λ (l : List ℕ). Some l) (sym s.read)

-- what follows a space is read as it is spelled, or not at all
pub spells_read : (rest ns : List ℕ) → reads 0 0 rest ≡ Some ns → Spells (32 ∷ rest) ns
spells_read rest ns e = sound rest 0 0 ns [] e tt refl (omega arith) refl

pub nothing_read : (rest : List ℕ) → reads 0 0 rest ≡ None → SpellsNothing (32 ∷ rest)
unfolding found
nothing_read rest e ns s = none-some ns (sym e ∙ found_complete (32 ∷ rest) ns s)

-- a text that does not begin with a space
pub nothing_stray : (c : ℕ) (cs : List ℕ) → (c ≡ 32 → ⊥) → SpellsNothing (c ∷ cs)
unfolding found
nothing_stray c cs other ns s = none-some ns (sym (cond-false (eqb c 32) (reads 0 0 cs) None (ne_eqb c 32 other)) ∙ found_complete (c ∷ cs) ns s)

-- a text spells one list of numbers
pub spells_one : (text ms ns : List ℕ) → Spells text ms → Spells text ns → ms ≡ ns
spells_one text ms ns s t = same_some ms ns (sym (found_complete text ms s) ∙ found_complete text ns t)
