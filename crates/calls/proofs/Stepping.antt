-- A loop that performs each call of a list in place.
use Rattle.std.proofs.Common.{◌≡◌, ℕ, List, [], ◌∷◌, ◌++◌, map, take, drop, refl, ap}
use Rattle.calls.specs.Steps.{through}

module _ {L A T P : Type 0} (ask : L → A) (tell : L → T) (f : P → A → T × P) where
  -- what is told already, and what the rest comes to
  abbrev pub whole : P → List L → ℕ → List T × P
  whole p xs i = let r = through f p (map ask (drop i xs)) in (map tell (take i xs) ++ r.0, r.1)

-- to go through one list and then another
pub through_append : {A T P : Type 0} (f : P → A → T × P) (p : P) (xs ys : List A) → through f p (xs ++ ys) ≡ ((through f p xs).0 ++ (through f (through f p xs).1 ys).0, (through f (through f p xs).1 ys).1)
through_append f p [] ys = refl
through_append f p (x ∷ xs) ys = ap (λ (r : List _ × _). ((f p x).0 ∷ r.0, r.1)) (through_append f (f p x).1 xs ys)
