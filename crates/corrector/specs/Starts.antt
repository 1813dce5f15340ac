-- Internal: what a correction starts from is what was handed in.
use Rattle.std.specs.Prelude.{◌≡◌, ℕ, Bool, List}
use Rattle.code.specs.declared.Code.{Code}
use Rattle.corrector.specs.declared.received.Received.{Received}

abbrev pub Starts : {F : Type 0} {Q M : ℕ} → Received F Q M → F → Code → List Bool → List ℕ → Type 0
Starts r field code erased word = (r.over.field.now ≡ field) × (r.over.code ≡ code) × (r.erased.now ≡ erased) × (r.word.now ≡ word)
