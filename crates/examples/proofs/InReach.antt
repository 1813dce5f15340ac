-- A codeword in reach that is found by computed tests is what correct leaves; one with the message is what encode leaves.
use Rattle.std.proofs.Common.{◌≡◌, ℕ, ◌≤◌, true, false, List, length, replicate, Ok, Result, sym, refl, ap, ◌∙◌}
use Rattle.field.specs.Meaning.{Meaning, Laws}
use Rattle.field.specs.Symbols.{all_below}
use Rattle.code.specs.Shape.{Shape}
use Rattle.code.specs.Words.{codeword, in_reach, agrees, marked, Near, Carries}
use Rattle.code.proofs.Decided.{codeword_is, reach_is}
use Rattle.code.proofs.Lowest.{codeword_no_failing}
use Rattle.code.proofs.Distance.{one_in_reach, one_per_message}
use Rattle.report.specs.Written.{Report, no_report, done, written}
use Rattle.report.specs.Changes.{reported}
use Rattle.bay.specs.Plain.{Plain, holding}
use Rattle.bay.proofs.Correcting.{finds_it}
use Rattle.bay.proofs.Encoding.{is_encoded}
use Rattle.examples.specs.Rows.{marks_at, bay_with, Leaves, Gave, test_absent, encode_gives, correct_gives}

module _ (f : Meaning) (laws : Laws f) (c : Shape) (fits : c.n ≤ f.m) (w lost : List ℕ) where
  abbrev p : Plain
  p = bay_with c w lost

  abbrev Out : Type 0
  Out = Result (Unit {0}) ℕ × Plain

  leaves : (v : List ℕ) (told : Report) (report : List ℕ) {out : Out} → out ≡ done (holding p v (replicate c.n false) told) → written told ≡ report → Leaves c out v report
  leaves v told report e h = record {
    accepted = ap (λ (o : Out). o.0) e;
    code_kept = ap (λ (o : Out). o.1.code) e;
    word_is = ap (λ (o : Out). o.1.word) e;
    marks_off = ap (λ (o : Out). o.1.marks) e;
    report_is = ap (λ (o : Out). written o.1.report) e ∙ h;
  }

  pub test_row : codeword f c w ≡ true → Gave f c p test_absent
  test_row t = ap Ok (codeword_no_failing f c w (codeword_is f c w t))

  pub encode_row : (v : List ℕ) → length v ≡ c.n → all_below f.q v ≡ true → codeword f c v ≡ true → agrees c.checks c w v ≡ true
      → Gave f c p (encode_gives v)
  encode_row v long symbols code message =
      let carries : Carries f c w v = record { word = record { long = long; symbols = symbols }; codeword = codeword_is f c v code; message = message } in
      let e = sym (is_encoded f p c v refl (record { carries = carries; only = λ u h. one_per_message f laws c fits w u v h carries })) in
      leaves v no_report (written no_report) e refl

  pub correct_row : (v report : List ℕ) → length v ≡ c.n → all_below f.q v ≡ true → codeword f c v ≡ true → in_reach c (marks_at c.n lost) w v ≡ true
      → written (reported (marked c (marks_at c.n lost)) w v) ≡ report → Gave f c p (correct_gives v report)
  correct_row v report long symbols code reach told =
      let marks = marks_at c.n lost in
      let near : Near f c marks w v = record { word = record { long = long; symbols = symbols }; codeword = codeword_is f c v code; reach = reach_is c marks w v reach } in
      let e = finds_it f p c refl v near (λ u h. one_in_reach f laws c fits marks w u v h near) in
      leaves v (reported (marked c marks) w v) report e told
