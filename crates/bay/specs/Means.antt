-- What encode and correct mean, with no search among words.
use Rattle.std.specs.Prelude.{◌≡◌, ℕ, Bool, List, Some, Ok, Err, Result}
use Rattle.field.specs.Meaning.{Meaning}
use Rattle.code.specs.Shape.{Shape}
use Rattle.code.specs.Words.{InReach, Near}
use Rattle.encoder.specs.Encodes.{Encodes}
use Rattle.report.specs.Written.{Report}
use Rattle.bay.specs.Plain.{Plain, holding, correcting}

-- under a code, encode is accepted, and leaves the one codeword with the message that it met
abbrev pub Encoded : Meaning → Plain → Result (Unit {0}) ℕ → Plain → Type 0
Encoded f p a after = (c : Shape) → p.code ≡ Some c → (a ≡ Ok tt) × Encodes f c p.word after.word

-- v is a codeword in reach of what the bay holds
abbrev pub IsInReach : Meaning → Shape → Plain → List ℕ → Type 0
IsInReach f c p v = Near f c p.marks p.word v

-- under a code, correct answers 12 exactly when no codeword is in reach
abbrev pub Refuses : Meaning → Plain → Result (Unit {0}) ℕ → Type 0
Refuses f p a = (c : Shape) → p.code ≡ Some c
    → (a ≡ Err 12 → (v : List ℕ) → IsInReach f c p v → ⊥) × (((v : List ℕ) → IsInReach f c p v → ⊥) → a ≡ Err 12)

-- an accepted correct leaves a codeword in reach of what it met, and every other codeword is out of reach
abbrev pub Corrects : Meaning → Plain → Result (Unit {0}) ℕ → Plain → Type 0
Corrects f p a after = (c : Shape) → p.code ≡ Some c → a ≡ Ok tt
    → IsInReach f c p after.word × ((v : List ℕ) → IsInReach f c p v → v ≡ after.word)

-- what the bay holds comes back: let its word be damaged in any way and be given any marks, then as long as the word held
-- before is in reach, correct is accepted and leaves it
abbrev pub ComesBack : Meaning → Plain → Type 0
ComesBack f p = (c : Shape) → p.code ≡ Some c → (w : List ℕ) (ms : List Bool) (r : Report) → InReach c ms w p.word
    → ((correcting f (holding p w ms r)).0 ≡ Ok tt) × ((correcting f (holding p w ms r)).1.word ≡ p.word)
