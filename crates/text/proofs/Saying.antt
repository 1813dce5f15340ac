-- What a line says, from its length, its second byte and what follows.
use Rattle.std.proofs.Common.{◌≡◌, ℕ, ◌-◌, ◌≤◌, List, [], ◌∷◌, length, get_or, take, drop, sym, ap, ◌∙◌, subst, arith}
use Rattle.std.proofs.lemmas.List.{take_all}
use Rattle.text.specs.Lines.{Spells, SpellsNothing, Says, SaysNothing, SaysOne}
use Rattle.text.proofs.Reading.{spells_one, nothing_stray}

pub says_one : SaysOne
says_one line c d ms ns s t =
    let same : s.text ≡ t.text = cc (s.whole, t.whole) in
    (cc (s.whole, t.whole), spells_one t.text ms ns (subst (λ (l : List ℕ). Spells l ms) same s.spells) t.spells)

-- a letter, a space and the rest
abbrev pub rest : List ℕ → List ℕ
rest line = take (length line - 2) (drop 2 line)

parts : (line : List ℕ) → 2 ≤ length line → get_or line 1 0 ≡ 32 → line ≡ get_or line 0 0 ∷ 32 ∷ rest line
parts [] two space = absurd (omega arith)
parts (c ∷ []) two space = absurd (omega arith)
parts (c ∷ d ∷ ds) two space =
    let all : take (length (c ∷ d ∷ ds) - 2) ds ≡ ds = take_all _ ds (omega arith) in
    ap (λ (n : ℕ). c ∷ n ∷ ds) space ∙ ap (λ (l : List ℕ). c ∷ 32 ∷ l) (sym all)

pub says_numbers : (line ns : List ℕ) → 2 ≤ length line → get_or line 1 0 ≡ 32 → length line ≤ 6000 → Spells (32 ∷ rest line) ns → Says line (get_or line 0 0) ns
says_numbers line ns two space short s = record { text = 32 ∷ rest line; whole = parts line two space; spells = s; short = short }

pub nothing_numbers : (line : List ℕ) → 2 ≤ length line → get_or line 1 0 ≡ 32 → SpellsNothing (32 ∷ rest line) → SaysNothing line
nothing_numbers line two space none c ns s =
    let same : s.text ≡ 32 ∷ rest line = cc (s.whole, parts line two space) in
    none ns (subst (λ (l : List ℕ). Spells l ns) same s.spells)

-- any other line
pub nothing_other : (line : List ℕ) → (length line ≡ 1 → ⊥) → (2 ≤ length line → get_or line 1 0 ≡ 32 → ⊥) → SaysNothing line
nothing_other line one space c ns s = other s.text s.whole s.spells where
  other : (text : List ℕ) → line ≡ c ∷ text → Spells text ns → ⊥
  other [] e t = one (ap length e)
  other (d ∷ ds) e t = nothing_stray d ds (λ is. space (omega (arith, ap length e)) (ap (λ (l : List ℕ). get_or l 1 0) e ∙ is)) ns t
