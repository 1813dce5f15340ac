-- What the plain bay's encoding means.
use Rattle.std.proofs.Common.{◌≡◌, ℕ, Bool, false, ◌&&◌, List, replicate, Some, Option, Result, sym, ap, ◌∙◌}
use Rattle.std.proofs.lemmas.Bool.{and_parts, and_from}
use Rattle.field.specs.Meaning.{Meaning}
use Rattle.code.specs.Shape.{Shape}
use Rattle.code.specs.Words.{codeword, agrees}
use Rattle.code.specs.Sought.{sought}
use Rattle.code.proofs.Finding.{finds_only}
use Rattle.code.proofs.Decided.{codeword_is, is_codeword}
use Rattle.encoder.specs.Encodes.{Encodes}
use Rattle.report.specs.Written.{refused, done, no_report}
use Rattle.bay.specs.Plain.{Plain, given, holding, encoding}

-- the codeword that was made is the one that is sought
pub is_encoded : (f : Meaning) (p : Plain) (c : Shape) (v : List ℕ) → p.code ≡ Some c → Encodes f c p.word v
    → done (holding p v (replicate c.n false) no_report) ≡ encoding f p
is_encoded f p c v e r =
    let Out : Type 0 = Result (Unit {0}) ℕ × Plain in
    let fits : Shape → List ℕ → Bool = λ d u. codeword f d u && agrees d.checks d p.word u in
    let then : Shape → Option (List ℕ) → Out = λ d o. given {X = Out} o (done p) (λ u. done (holding p u (replicate d.n false) no_report)) in
    let found : sought f.q c.n (fits c) ≡ Some v =
    finds_only f.q c.n (fits c) v r.carries.word (and_from _ _ (is_codeword f c v r.carries.codeword) r.carries.message)
    (λ u w t. let k = and_parts (codeword f c u) (agrees c.checks c p.word u) t in
    r.only u (record { word = w; codeword = codeword_is f c u k.0; message = k.1 })) in
    sym (ap (λ (o : Option Shape). given {X = Out} o (refused 5 p) (λ d. then d (sought f.q d.n (fits d)))) e ∙ ap (then c) found)
