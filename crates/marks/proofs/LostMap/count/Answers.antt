use Rattle.std.proofs.Common.{◌≡◌, ℕ, Bool, List, count_by, sym, ap, ◌∙◌, subst, arith}
use Rattle.std.proofs.lemmas.List.Sums.{count_by-le-length}
use Rattle.marks.specs.Held.{flags}
use Rattle.marks.specs.Marks.{marks, Clean}
use Rattle.marks.proofs.Reading.{clean, length_flags}
use Rattle.marks.proofs.LostMap.count.Goals as goal

pub returns : goal.returns
unfolding flags
returns c =
    let m = c.args.self.now in
    let P : List ℕ → Type 0 = Clean m.n in
    let v : c.count_bits.result ≡ count_by (λ b. b) (flags m) = c.count_bits.ensures m.n (subst P (sym c.as_slice.ensures.value) (clean m)) ∙ ap (λ (l : List ℕ). count_by (λ b. b) (marks m.n l)) c.as_slice.ensures.value in
    record { value = v; bound = omega (arith, v, count_by-le-length (λ (b : Bool). b) (flags m), length_flags m, m.few) }
