-- The first word that passes a test, among all words of n symbols below q.
use Rattle.std.specs.Prelude.{◌≡◌, ℕ, zero, suc, Bool, true, false, cond, List, [], ◌∷◌, Some, None, Option}
use Rattle.code.specs.Words.{Word, first_of}

abbrev pub after : ℕ → Option (List ℕ) → Option (List ℕ)
after x (Some w) = Some (x ∷ w)
after x None = None

-- each first symbol in turn, and after it each word of one symbol less
unfoldable pub sought : ℕ → ℕ → (List ℕ → Bool) → Option (List ℕ)
sought q zero test = cond (test []) (Some []) None
sought q (suc n) test = first_of q (λ x. after x (sought q n (λ w. test (x ∷ w))))

-- nothing is found exactly when no word passes
abbrev pub FindsNone : Type 0
FindsNone = (q n : ℕ) (test : List ℕ → Bool)
    → (sought q n test ≡ None → (w : List ℕ) → Word q n w → test w ≡ false)
    × (((w : List ℕ) → Word q n w → test w ≡ false) → sought q n test ≡ None)

-- what is found is a word that passes
abbrev pub FindsPassing : Type 0
FindsPassing = (q n : ℕ) (test : List ℕ → Bool) (w : List ℕ) → sought q n test ≡ Some w → Word q n w × (test w ≡ true)

-- a word that alone passes is found
abbrev pub FindsOnly : Type 0
FindsOnly = (q n : ℕ) (test : List ℕ → Bool) (w : List ℕ) → Word q n w → test w ≡ true
    → ((v : List ℕ) → Word q n v → test v ≡ true → v ≡ w) → sought q n test ≡ Some w
