-- Each letter with its numbers, as the table of requests has it.
use Rattle.std.proofs.Common.{◌≡◌, ℕ, ◌<◌, List, [], ◌∷◌, length, replicate, Some, vec_items, sym, ap, ◌∙◌, arith, rules}
use Rattle.calls.specs.declared.Call.{Call}
use Rattle.calls.specs.Runs.{asked}
use Rattle.calls.specs.Steps.{read, report}
use Rattle.script.specs.Requests.{requested}
use Rattle.script.proofs.request.request.Goals as goal
use Rattle.script.proofs.request.request.Goals.{in-N-len3, in-L-default+in_ok-map-in-L-default, in-P-len2, in-M-len1, in-X-empty, in-E-empty, in-C-empty, in-T-empty, in-W-empty+in_ok-vec-in-W-empty, in-Q-empty+in_ok-vec-in-Q-empty}

-- of a letter without numbers
of_none : (letter : ℕ) (ns : List ℕ) (byte : ℕ) → letter ≡ byte → length ns < 1 → requested letter ns ≡ requested byte []
of_none letter [] byte is none = ap (λ (b : ℕ). requested b []) is
of_none letter (x ∷ ns) byte is none = absurd (omega arith)

pub returns : goal.returns
returns c = let letter = c.args.sentence.letter in let numbers = vec_items c.args.sentence.numbers in elim c.match-from.branch [
  | in-N-len3 w ↦ search rules
  | in-L-default+in_ok-map-in-L-default w ↦ search rules
  | in-P-len2 w ↦ search rules
  | in-M-len1 w ↦ search rules
  | in-X-empty w ↦ search rules
  | in-E-empty w ↦ search rules
  | in-C-empty w ↦ search rules
  | in-T-empty w ↦ search rules
  | in-W-empty+in_ok-vec-in-W-empty w ↦
      let h = w.in_ok-vec-in-W-empty.ensures.items_if_clones_equal in
      let zeros : vec_items w.in_ok-vec-in-W-empty.field-0 ≡ replicate 928 0 = search rules in
      ap (λ (x : Call). Some (asked x)) w.call-is ∙ ap (λ (l : List ℕ). Some (read l)) zeros ∙ sym (of_none letter numbers 87 (omega arith) (omega arith))
  | in-Q-empty+in_ok-vec-in-Q-empty w ↦
      let h = w.in_ok-vec-in-Q-empty.ensures.items_if_clones_equal in
      let zeros : vec_items w.in_ok-vec-in-Q-empty.field-0 ≡ replicate 1026 0 = search rules in
      ap (λ (x : Call). Some (asked x)) w.call-is ∙ ap (λ (l : List ℕ). Some (report l)) zeros ∙ sym (of_none letter numbers 81 (omega arith) (omega arith))
]
