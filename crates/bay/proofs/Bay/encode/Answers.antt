use Rattle.std.proofs.Common.{◌≡◌, ℕ, ◌≤◌, false, List, [], replicate, refl, sym, ap, ◌∙◌, subst, rules}
use Rattle.std.specs.Vec.{with_items}
use Rattle.std.proofs.lemmas.List.{with_items_is}
use Rattle.marks.specs.Held.{flags}
use Rattle.code.specs.Shape.{shape}
use Rattle.code.specs.Words.{Word, Codeword}
use Rattle.encoder.specs.Encodes.{Encodes}
use Rattle.report.specs.Written.{no_report}
use Rattle.bay.specs.Shapes.{shaped}
use Rattle.bay.specs.Plain.{holding}
use Rattle.bay.specs.Held.{held}
use Rattle.bay.proofs.Holding.{done_with}
use Rattle.bay.proofs.Fitting.{code_in}
use Rattle.bay.proofs.Encoding.{is_encoded}
use Rattle.bay.proofs.RoundTrip.{restored}
use Rattle.bay.proofs.Bay.encode.Goals as goal

pub returns-clause-follows : goal.returns-clause-follows
returns-clause-follows g c =
    let s = c.args.self.now in
    let d = shape c.in_ok-code.code in
    let new = c.encode.new.word in
    let back : (with_items s.word new).items ≡ new = with_items_is s.word new (c.encode.auto.word ∙ c.as_mut_slice.ensures.len) in
    let none : flags c.blank.new.self ≡ replicate d.n false = search rules in
    let E : List ℕ → Type 0 = λ w. Encodes (g.F.Field.means s.field) d w new in
    let encodes : Encodes (g.F.Field.means s.field) d s.word.items new = subst E c.as_mut_slice.ensures.value (c.encode.ensures.encodes c.unwrap.ensures) in
    record { does = done_with refl back none c.clear.ensures ∙ is_encoded (g.F.Field.means s.field) (held s) d new (ap shaped c.in_ok-code.ensures) encodes; same = refl }

pub returns-clause-comes_back : goal.returns-clause-comes_back
returns-clause-comes_back g c =
    let s = c.args.self.now in
    let f = g.F.Field.means s.field in
    let v = (with_items s.word c.encode.new.word).items in
    let back : v ≡ c.encode.new.word = with_items_is s.word c.encode.new.word (c.encode.auto.word ∙ c.as_mut_slice.ensures.len) in
    let carries = (c.encode.ensures.encodes c.unwrap.ensures).carries in
    λ _ x e.
    let same : shape c.in_ok-code.code ≡ x = search rules in
    let within : x.n ≤ f.m = subst (λ (k : ℕ). x.n ≤ k) (sym (g.met.F.Fixed.turn s.field)) (code_in g.row.M s.code s.fits x e) in
    let word : Word f.q x.n v = rw (← same, back) carries.word in
    let codeword : Codeword f x v = rw (← same, back) carries.codeword in
    restored f (g.met.F.Field.lawful s.field) (holding (held s) v [] no_report) x e within word codeword
