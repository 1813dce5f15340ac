use Rattle.std.proofs.Common.{◌≡◌, ℕ, ◌≤◌, true, false, List, length, replicate, vec_items, Err, Result, sym, refl, ap, ◌∙◌, subst, rules}
use Rattle.std.specs.Vec.{with_items}
use Rattle.std.proofs.lemmas.List.{with_items_is}
use Rattle.std.proofs.lemmas.Result.{err_from_is_err_and}
use Rattle.field.specs.Symbols.{all_below}
use Rattle.marks.specs.Held.{flags, span}
use Rattle.marks.proofs.Reading.{length_flags}
use Rattle.code.specs.declared.Refusal.{Refusal}
use Rattle.code.specs.Refusals.{number, numbered}
use Rattle.code.specs.Shape.{shape}
use Rattle.code.specs.Words.{marked}
use Rattle.code.proofs.Counts.{marked_is}
use Rattle.corrector.specs.Corrected.{Corrected}
use Rattle.report.specs.Changes.{reported, reportable}
use Rattle.report.specs.Told.{told}
use Rattle.report.proofs.Telling.{few}
use Rattle.bay.specs.Shapes.{shaped, width}
use Rattle.bay.specs.Held.{held}
use Rattle.bay.proofs.Holding.{done_with}
use Rattle.bay.proofs.Fitting.{fits_kept, fits_erased}
use Rattle.bay.proofs.Correcting.{is_corrected, is_refused, moved}
use Rattle.bay.proofs.Changing.{few_changes, few_back}
use Rattle.bay.proofs.Bay.repair.Goals as goal

pub returns-in_err-correct : goal.returns-in_err-correct
returns-in_err-correct g c =
    let s = c.args.self.now in
    let f = g.F.Field.means s.field in
    let d = shape c.args.code in
    let wide : span s.lost ≡ d.n = s.wide ∙ ap width c.requires.coded in
    let marks : c.copy_to.new.out ≡ flags s.lost = search rules in
    let word : c.copy_from_slice.new.self ≡ s.word.items = c.copy_from_slice.ensures.after ∙ c.as_slice.ensures.value in
    let met : Corrected f d (flags s.lost) s.word.items (numbered c.correct.result) c.correct.new.word = moved f d marks word c.correct.ensures in
    let kept = fits_kept f g.row.Q g.row.M s.code c.args.code s.word.items (g.met.F.Fixed.size s.field) (g.met.F.Fixed.turn s.field) c.requires.coded s.fits s.starts (sym s.word.ok.0 ∙ s.long) s.symbols in
    let p = err_from_is_err_and c.from_residual.result c.from_residual.ensures.1 in
    let was : c.from_residual.result ≡ Err c.in_err-correct.field-0.0 = p.1 ∙ ap Err p.2 in
    record {
      does = ap (λ (r : Result (Unit {0}) Refusal). (numbered r, held s)) was
          ∙ is_refused f (held s) d (ap shaped c.requires.coded) _ _ met (fits_erased f d s.word.items kept (flags s.lost) (length_flags s.lost ∙ wide)) (number c.in_err-correct.field-0.0) (ap numbered c.in_err-correct.was);
      same = refl;
    }

pub unwrap-requires-2 : goal.unwrap-requires-2
unwrap-requires-2 g c =
    let s = c.args.self.now in
    let f = g.F.Field.means s.field in
    let d = shape c.args.code in
    let old : List ℕ = s.word.items in
    let new = c.correct.new.word in
    let marks : c.copy_to.new.out ≡ flags s.lost = search rules in
    let word : c.copy_from_slice.new.self ≡ old = c.copy_from_slice.ensures.after ∙ c.as_slice.ensures.value in
    let near = (moved f d marks word c.correct.ensures).near (ap numbered c.in_ok-correct.was) in
    let long : length old ≡ d.n = sym s.word.ok.0 ∙ s.long ∙ ap width c.requires.coded in
    let narrow : length old ≤ 928 = subst (λ (k : ℕ). k ≤ 928) (sym long) c.args.code.most in
    let same = near.word.long ∙ sym long in
    let changed = few_changes f d (flags s.lost) old new near long c.args.code.few in
    let tells : reportable c.as_slice-2.result.now new ≡ true = ap (λ (w : List ℕ). reportable w new) c.as_slice-2.ensures.value ∙ sym (few old new same narrow changed) in
    -- the other way round too: which word comes first counts in `returns` alone
    let tells_back : reportable new c.as_slice-2.result.now ≡ true = ap (reportable new) c.as_slice-2.ensures.value ∙ sym (few_back old new same narrow changed) in
    search rules

pub invariant_of-self-2-clause-symbols : goal.invariant_of-self-2-clause-symbols
invariant_of-self-2-clause-symbols g c =
    let s = c.args.self.now in
    let new = c.correct.new.word in
    let back : vec_items (with_items s.word c.copy_from_slice-2.new.self) ≡ new =
    with_items_is s.word _ (c.copy_from_slice-2.auto.self ∙ c.as_mut_slice.ensures.len) ∙ c.copy_from_slice-2.ensures.after in
    let symbols = (c.correct.ensures.near (ap numbered c.in_ok-correct.was)).word.symbols in
    ap (all_below g.row.Q) back ∙ ap (λ (q : ℕ). all_below q new) (sym (g.met.F.Fixed.size s.field)) ∙ symbols

pub returns : goal.returns
returns g c =
    let s = c.args.self.now in
    let f = g.F.Field.means s.field in
    let d = shape c.args.code in
    let old : List ℕ = s.word.items in
    let new = c.correct.new.word in
    let wide : span s.lost ≡ d.n = s.wide ∙ ap width c.requires.coded in
    let marks : c.copy_to.new.out ≡ flags s.lost = search rules in
    let word : c.copy_from_slice.new.self ≡ old = c.copy_from_slice.ensures.after ∙ c.as_slice.ensures.value in
    let met : Corrected f d (flags s.lost) old (numbered c.correct.result) new = moved f d marks word c.correct.ensures in
    let count : c.count.result ≡ marked d (flags s.lost) = c.count.ensures.value ∙ sym (marked_is d (flags s.lost) (length_flags s.lost ∙ wide)) in
    let back : vec_items (with_items s.word c.copy_from_slice-2.new.self) ≡ new =
    with_items_is s.word _ (c.copy_from_slice-2.auto.self ∙ c.as_mut_slice.ensures.len) ∙ c.copy_from_slice-2.ensures.after in
    let told_is : told c.describe.new.self ≡ reported c.count.result old new = search rules in
    let none : flags c.blank.new.self ≡ replicate d.n false = search rules in
    record {
      does = done_with refl back none (told_is ∙ ap (λ (k : ℕ). reported k old new) count)
          ∙ is_corrected f (held s) d (ap shaped c.requires.coded) _ new met (ap numbered c.in_ok-correct.was);
      same = refl;
    }
