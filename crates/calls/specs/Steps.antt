-- Calls to the plain bay, and lists of them.
use Rattle.std.specs.Prelude.{◌≡◌, ℕ, List, [], ◌∷◌, ◌++◌, Ok, Err, Option, Result}
use Rattle.field.specs.Meaning.{Meaning}
use Rattle.bay.specs.Plain.{Plain, making, loading, putting, marking, clearing, encoding, correcting, testing, reading, reporting, placing}

-- a call, with its buffers as they are when it starts
pub data Asked : Type 0 where
  make : ℕ → ℕ → ℕ → Asked
  load : List ℕ → List ℕ → Asked
  put : ℕ → ℕ → Asked
  mark : ℕ → Asked
  clear : Asked
  encode : Asked
  correct : Asked
  test : Asked
  read : List ℕ → Asked
  report : List ℕ → Asked
  message : List ℕ → Asked

-- an answer: accepted, turned down with a number, a failing root or none, or where a part starts and its length
pub data Said : Type 0 where
  yes : Said
  no : ℕ → Said
  root : Option ℕ → Said
  part : ℕ → ℕ → Said

-- a call that was made: its buffers as they are then, and its answer
pub record Told : Type 0 where
  pub call : Asked
  pub answer : Said

abbrev pub plainly : Result (Unit {0}) ℕ → Said
plainly (Ok x) = yes
plainly (Err k) = no k

abbrev pub rooted : Result (Option ℕ) ℕ → Said
rooted (Ok t) = root t
rooted (Err k) = no k

abbrev pub placed : Result (ℕ × ℕ) ℕ → Said
placed (Ok p) = part p.0 p.1
placed (Err k) = no k

-- a call that may change the bay, one that writes into its buffer, and one that only asks
abbrev pub changing : Asked → Result (Unit {0}) ℕ × Plain → Told × Plain
changing a r = (record { call = a; answer = plainly r.0 }, r.1)

abbrev pub writing : (List ℕ → Asked) → Plain → Result (Unit {0}) ℕ × List ℕ → Told × Plain
writing a p r = (record { call = a r.1; answer = plainly r.0 }, p)

abbrev pub asking : Asked → Plain → Said → Told × Plain
asking a p s = (record { call = a; answer = s }, p)

-- one call
abbrev pub step : Meaning → Plain → Asked → Told × Plain
step f p (make n r b) = changing (make n r b) (making f p n r b)
step f p (load w map) = changing (load w map) (loading f p w map)
step f p (put pos sym) = changing (put pos sym) (putting f p pos sym)
step f p (mark pos) = changing (mark pos) (marking p pos)
step f p clear = changing clear (clearing p)
step f p encode = changing encode (encoding f p)
step f p correct = changing correct (correcting f p)
step f p test = asking test p (rooted (testing f p))
step f p (read buf) = writing read p (reading p buf)
step f p (report buf) = writing report p (reporting p buf)
step f p (message buf) = asking (message buf) p (placed (placing p buf))

-- things done one after another
abbrev pub through : {A T P : Type 0} → (P → A → T × P) → P → List A → List T × P
through f p [] = ([], p)
through f p (a ∷ more) = let s = f p a in let rest = through f s.1 more in (s.0 ∷ rest.0, rest.1)

-- the calls, one after another
abbrev pub runs : Meaning → Plain → List Asked → List Told × Plain
runs f p calls = through (step f) p calls

-- one run and then another
abbrev pub and_then : Meaning → List Told × Plain → List Asked → List Told × Plain
and_then f r calls = let s = runs f r.1 calls in (r.0 ++ s.0, s.1)

-- the calls of two lists in one run are a run of the first and then one of the second
abbrev pub Composes : Type 0
Composes = (f : Meaning) (p : Plain) (xs ys : List Asked) → runs f p (xs ++ ys) ≡ and_then f (runs f p xs) ys
