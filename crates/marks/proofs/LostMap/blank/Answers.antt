use Rattle.std.proofs.Common.{◌≡◌, ℕ, ◌/◌, ◌%◌, ◌^◌, ◌<◌, List, get_or, replicate, vec_items, sym, ap, ◌∙◌, subst, rules}
use Rattle.std.proofs.lemmas.Nat.{pow_pos}
use Rattle.marks.specs.Held.{flags}
use Rattle.marks.specs.Marks.{marks}
use Rattle.marks.proofs.Reading.{zeros_at, marks_zeros}
use Rattle.marks.proofs.LostMap.blank.Goals as goal
use Rattle.marks.proofs.LostMap.blank.Goals.{After-resize}

zeros : (c : After-resize) → vec_items c.resize.new.self ≡ replicate c.bytes_for.result 0
zeros c = search rules

pub invariant_of-self-clause-tidy : goal.invariant_of-self-clause-tidy
invariant_of-self-clause-tidy c =
    let P : ℕ → Type 0 = λ x. x < 2 ^ (c.args.n % 8) in
    let at0 : get_or (vec_items c.resize.new.self) (c.args.n / 8) 0 ≡ 0 = ap (λ (l : List ℕ). get_or l (c.args.n / 8) 0) (zeros c) ∙ zeros_at c.bytes_for.result (c.args.n / 8) in
    subst P (sym at0) (pow_pos (c.args.n % 8))

pub returns-clause-flags : goal.returns-clause-flags
unfolding flags
returns-clause-flags c = ap (marks c.args.n) (zeros (goal.at.returns-clause-flags c).After-resize) ∙ marks_zeros c.args.n c.bytes_for.result
