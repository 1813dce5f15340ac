use Rattle.std.proofs.Common.{◌≡◌, ℕ, ◌-◌, ◌<◌, Bool, true, cond, List, [], ◌++◌, take, replicate, is_ok, ap, ◌∙◌, arith}
use native.Mathlib.Nat.{sub-zero}
use lib.Seq.{take-nil}
use Rattle.field.specs.Symbols.{all_below}
use Rattle.field.proofs.Symbols.{below_zeros}
use Rattle.bay.proofs.Bay.make.Goals as goal

-- an empty list that is filled up with zeros
filled : (n len : ℕ) (was new : List ℕ) (b : Bool) → b ≡ true → was ≡ [] → len ≡ 0 → new ≡ cond b (take n was ++ replicate (n - len) 0) was → new ≡ replicate n 0
filled n len was new b yep none zip e = e ∙ simp (yep, none, zip, take-nil, sub-zero)

pub invariant_of-self-clause-symbols : goal.invariant_of-self-clause-symbols
invariant_of-self-clause-symbols g c =
    let s = c.args.self.now in
    let low = (g.met.F.Field.lawful s.field).q_low in
    let size = g.met.F.Fixed.size s.field in
    let pos : 0 < g.row.Q = omega (arith, low, size) in
    let zeros = filled c.args.n _ _ _ _ (ap is_ok c.unwrap.ensures) c.clear.ensures.items c.clear.ensures.len c.resize.ensures.items in
    ap (all_below g.row.Q) zeros ∙ below_zeros g.row.Q c.args.n pos
