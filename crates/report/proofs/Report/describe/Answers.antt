use Rattle.std.proofs.Common.{rules, ◌≡◌, ℕ, ◌+◌, ◌≤◌, cond, List, [], ◌∷◌, ◌++◌, map, length, sym, ap, ◌∙◌, ap₂, arith, Ok, Err, vec_len}
use Rattle.std.proofs.lemmas.List.{length-map, length_push, map_push}
use Rattle.std.proofs.lemmas.Iterator.{YieldsList-from_slice, YieldsList-from_zip}
use Rattle.std.proofs.lemmas.Iterator.Consumers.{YieldsList-from_enumerate, YieldsList-at, YieldsList-turn, YieldsList-end}
use Rattle.report.specs.declared.Change.{Change}
use Rattle.report.specs.declared.Report.{Report as Kept}
use Rattle.code.specs.declared.Refusal.TheVariants as refusal
use Rattle.report.specs.Told.{told}
use Rattle.report.specs.Changes.{changes}
use Rattle.report.proofs.Telling.{so_far, added, Turn, turn, turns, told_more, told_same, too_many, few}
use Rattle.report.proofs.Report.describe.Goals as goal
use Rattle.report.proofs.Report.describe.Goals.{In-Some}

-- as many places are told as changes are kept
kept : (r : Kept) → length (told r).places ≡ vec_len r.changes
kept r = length-map r.changes.items (λ (c : Change). c.position) ∙ sym r.changes.ok.0

-- what the loop meets
met : (c : In-Some) → Turn c.args.old.now c.args.new.now (length c.loop-position.yielded) c.in-Some.position c.in-Some.former.now c.in-Some.now.now
met c =
    let road = YieldsList-at c.into_iter-position-iterator.ensures.into_iter_gives (YieldsList-from_enumerate (YieldsList-from_zip (YieldsList-from_slice c.args.old.now cc) (YieldsList-from_slice c.args.new.now cc)) (cc)) in
    let t = YieldsList-turn road c.loop-position.yielded c.loop-position.position-iterator c.loop-position.yielded_by c.next.result c.next.new.self (c.in-Some.position, (c.in-Some.former, c.in-Some.now)) c.in-Some.is c.next.ensures.steps in
    turn c.args.old.now c.args.new.now (length c.loop-position.yielded) (c.in-Some.position, (c.in-Some.former.now, c.in-Some.now.now)) c.if-new-old.false t.0 t.1

-- one turn more
more : (c : In-Some) → so_far c.args.old.now c.args.new.now (length c.loop-position.yielded + 1) ≡ so_far c.args.old.now c.args.new.now (length (c.loop-position.yielded ++ ((c.in-Some.position, (c.in-Some.former, c.in-Some.now)) ∷ [])))
more c = ap (so_far c.args.old.now c.args.new.now) (sym (length_push c.loop-position.yielded (c.in-Some.position, (c.in-Some.former, c.in-Some.now))))

pub loop-position-preserved : goal.loop-position-preserved
loop-position-preserved c =
    let at = (goal.at.loop-position-preserved c).In-Some in
    c.loop-position.invariant ∙ told_same _ _ _ _ _ _ (met at) c.if-former-now.false ∙ more at

pub loop-position-preserved-then-former-now : goal.loop-position-preserved-then-former-now
loop-position-preserved-then-former-now c =
    let at = (goal.at.loop-position-preserved-then-former-now c).In-Some in
    let r = c.loop-position.self in
    let change : Change = record { position = c.in-Some.position; former = c.in-Some.former.now } in
    let pushed : c.push.new.self.items ≡ r.changes.items ++ (change ∷ []) = search rules in
    ap (λ (cs : List Change). record { met = r.met; places = map (λ c. c.position) cs; former = map (λ c. c.former) cs }) pushed
    ∙ ap₂ (λ (ps fs : List ℕ). record { met = r.met; places = ps; former = fs }) (map_push (λ c. c.position) r.changes.items change) (map_push (λ c. c.former) r.changes.items change)
    ∙ ap (λ t. added t change.position change.former) c.loop-position.invariant
    ∙ told_more _ _ _ _ _ _ (met at) c.if-former-now.true ∙ more at

pub returns-then-len-eq-CHECKS-clause-value : goal.returns-then-len-eq-CHECKS-clause-value
returns-then-len-eq-CHECKS-clause-value c =
    let at = (goal.at.returns-then-len-eq-CHECKS-clause-value c).In-Some in
    let r = c.loop-position.self in
    let places : length (told r).places ≡ length (so_far c.args.old.now c.args.new.now (length c.loop-position.yielded)).places = ap (λ t. length t.places) c.loop-position.invariant in
    let full : 512 ≤ length (so_far c.args.old.now c.args.new.now (length c.loop-position.yielded)).places = omega (arith, places, kept r, c.len.ensures, c.if-len-eq-CHECKS.true) in
    sym (ap (λ b. cond b (Ok tt) (Err refusal.Count)) (too_many _ _ _ _ _ _ (met at) c.if-former-now.true full))

pub returns-clause-value : goal.returns-clause-value
returns-clause-value c =
    let w = c.args.old.now in
    let v = c.args.new.now in
    let road = YieldsList-at c.into_iter-position-iterator.ensures.into_iter_gives (YieldsList-from_enumerate (YieldsList-from_zip (YieldsList-from_slice w cc) (YieldsList-from_slice v cc)) (cc)) in
    let end = YieldsList-end road c.loop-position.yielded c.loop-position.position-iterator c.loop-position.yielded_by c.next.result c.next.new.self c.in-None.is c.next.ensures.steps in
    let all : told c.loop-position.self ≡ so_far w v (length w) = c.loop-position.invariant ∙ ap (so_far w v) (end.1 ∙ turns w v c.if-new-old.false) in
    let places : length (told c.loop-position.self).places ≡ length (changes w v) = ap (λ t. length t.places) all in
    let short : length (changes w v) ≤ 512 = omega (arith, places, kept c.loop-position.self, c.loop-position.self.few) in
    ap (λ b. cond b (Ok tt) (Err refusal.Count)) (few w v c.if-new-old.false c.if-old-gt-POSITIONS.false short)
