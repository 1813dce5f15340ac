use Rattle.std.proofs.Common.{◌≤◌, true, length, sym, refl, arith}
use Rattle.std.proofs.lemmas.List.{set_past}
use Rattle.marks.specs.Held.{flags}
use Rattle.marks.proofs.Reading.{clean, length_flags}
use Rattle.marks.proofs.Turning.{marks_on, rest_on}
use Rattle.marks.proofs.LostMap.set.Goals as goal

pub invariant_of-self-clause-tidy : goal.invariant_of-self-clause-tidy
invariant_of-self-clause-tidy c =
    let m = c.args.self.now in
    rest_on m.n m.bytes.items c.args.pos _ c.if-pos-self.true (clean m) c.index_mut.ensures.value

pub returns-then-pos-self : goal.returns-then-pos-self
unfolding flags
returns-then-pos-self c =
    let m = c.args.self.now in
    record { flags = marks_on m.n m.bytes.items c.args.pos _ c.if-pos-self.true (clean m) c.index_mut.ensures.value; span = refl }

pub returns-else-pos-self : goal.returns-else-pos-self
returns-else-pos-self c =
    let past : length (flags c.args.self.now) ≤ c.args.pos = omega (arith, length_flags c.args.self.now) in
    record { flags = sym (set_past _ _ true past); span = refl }
