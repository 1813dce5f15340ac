use Rattle.std.proofs.Common.{vec_items, string_bytes, sym, ap, ◌∙◌}
use Rattle.std.proofs.lemmas.Result.{IfOk-weaker}
use Rattle.std.proofs.lemmas.Option.{MatchOption-at_none, MatchOption-at_some}
use Rattle.bay.specs.Held.{held}
use Rattle.calls.specs.Runs.{asked, told}
use Rattle.script.specs.Asking.{sought}
use Rattle.script.proofs.Replying as R
use Rattle.script.proofs.answer.answer.Goals as goal

pub returns-in_default-clause-replies : goal.returns-in_default-clause-replies
returns-in_default-clause-replies g c =
    let f = g.F.Field.means c.args.bay.now.field in
    let p = held c.args.bay.now in
    let line = c.args.line.now in
    let nothing = MatchOption-at_none _ _ c.in_default.is c.in_ok-sentence.ensures.said in
    IfOk-weaker c.question_line.result _ _ (λ s e. R.unheard f p line nothing (string_bytes s) e) c.question_line.ensures

pub returns-in_default-2-clause-replies : goal.returns-in_default-2-clause-replies
returns-in_default-2-clause-replies g c =
    let f = g.F.Field.means c.args.bay.now.field in
    let p = held c.args.bay.now in
    let line = c.args.line.now in
    let said = c.in-Some.sentence in
    let says = MatchOption-at_some _ _ _ c.in-Some.is c.in_ok-sentence.ensures.said in
    IfOk-weaker c.question_line-in_default-2.result _ _
    (λ s e. R.unasked f p line c.read_line.ensures.only said.letter (vec_items said.numbers) says
    (sym c.in_ok-call.ensures ∙ ap sought c.in_default-2.is) (string_bytes s) e)
    c.question_line-in_default-2.ensures

pub returns-clause-replies : goal.returns-clause-replies
returns-clause-replies g c =
    let f = g.F.Field.means c.args.bay.now.field in
    let p = held c.args.bay.now in
    let line = c.args.line.now in
    let said = c.in-Some.sentence in
    let says = MatchOption-at_some _ _ _ c.in-Some.is c.in_ok-sentence.ensures.said in
    IfOk-weaker c.reply.result _ _
    (λ s e. R.asking f p line c.read_line.ensures.only said.letter (vec_items said.numbers) says
    (asked c.in-Some-2.call) (sym (ap sought c.in-Some-2.is) ∙ c.in_ok-call.ensures)
    (told c.run_one-line.result) (held c.run_one-line.new.bay) c.run_one-line.ensures.does
    c.positions.result c.positions.ensures (string_bytes s) e)
    c.reply.ensures
