-- What an encoding means.
use Rattle.std.specs.Prelude.{◌≡◌, ℕ, List}
use Rattle.field.specs.Meaning.{Meaning}
use Rattle.code.specs.Shape.{Shape}
use Rattle.code.specs.Words.{Carries}

-- v is the one codeword with the message of w
pub record Encodes (f : Meaning) (c : Shape) (w v : List ℕ) : Type 0 where
  pub carries : Carries f c w v
  pub only : (u : List ℕ) → Carries f c w u → u ≡ v
