-- Which letter and numbers a line says. A line is a list of bytes, without the byte that ends it.
use Rattle.std.specs.Prelude.{◌≡◌, ℕ, ◌<◌, ◌≤◌, true, List, ◌∷◌, map, length}
use Rattle.std.specs.Str.Parse.{digits_value}
use Rattle.std.specs.List.{flat_map, AllByRecursion}
use Rattle.std.specs.Str.{all_ascii_digits}

-- one to five digits, of which the first may be 0
pub record Numeral (ds : List ℕ) : Type 0 where
  pub some : 0 < length ds
  pub few : length ds ≤ 5
  pub digits : all_ascii_digits ds ≡ true

-- a text that spells numbers: numerals, each after one space
pub record Spells (text numbers : List ℕ) : Type 0 where
  pub numerals : List (List ℕ)
  pub each : AllByRecursion Numeral numerals
  pub written : text ≡ flat_map (λ ds. 32 ∷ ds) numerals
  pub read : numbers ≡ map (digits_value 10) numerals

-- no numbers are spelled by the text
abbrev pub SpellsNothing : List ℕ → Type 0
SpellsNothing text = (numbers : List ℕ) → Spells text numbers → ⊥

-- a line that says a letter and numbers: the letter, then the text that spells the numbers, 6,000 bytes at most
pub record Says (line : List ℕ) (letter : ℕ) (numbers : List ℕ) : Type 0 where
  pub text : List ℕ
  pub whole : line ≡ letter ∷ text
  pub spells : Spells text numbers
  pub short : length line ≤ 6000

-- no letter and numbers are said by the line
abbrev pub SaysNothing : List ℕ → Type 0
SaysNothing line = (letter : ℕ) (numbers : List ℕ) → Says line letter numbers → ⊥

-- no line says two things
abbrev pub SaysOne : Type 0
SaysOne = (line : List ℕ) (c d : ℕ) (ms ns : List ℕ) → Says line c ms → Says line d ns → (c ≡ d) × (ms ≡ ns)
