use Rattle.std.proofs.Common.{rules, ◌≡◌, ℕ, ◌+◌, ◌≤◌, List, take, length, ℤ, pos, negsuc, ◌+ℤ◌, ◌-ℤ◌, ◌≤ℤ◌, is_ok, sym, subst, arith, w32, to_z, of_z, replicate, length-take}
use Rattle.std.proofs.lemmas.Int.{ints}
use Rattle.field.specs.Symbols.{Within}
use Rattle.code.specs.Shape.{shape}
use Rattle.code.specs.Words.{Word}
use Rattle.corrector.proofs.Deciding.{cut_most, left_in, right_in, repaired, not_refused, answered_ok, answered_solved}
use Rattle.corrector.proofs.received.Received.repair.Goals as goal

-- the order s - 1, as the code computes it
abbrev order : ℕ → ℤ
order s = to_z w32 (of_z w32 (to_z w32 s -ℤ pos 1))

order_is : (s : ℕ) → s ≤ 512 → pos s ≡ order s +ℤ pos 1
order_is s h = omega (arith, ints)

order_low : (s : ℕ) → s ≤ 512 → negsuc 510 ≤ℤ order s
order_low s h = omega (arith, ints)

order_high : (s : ℕ) → s ≤ 512 → order s ≤ℤ pos 511
order_high s h = omega (arith, ints)

pub slice_bounds-left-end : goal.slice_bounds-left-end
slice_bounds-left-end g c = let h = cut_most (c.checks-checks.result + 1) c.unwrap-a.result.0 c.solve.new.left (answered_solved (g.F.Field.means c.args.self.now.over.field.now) c.args.modified.now c.checks-checks.result (order c.args.s) (replicate 513 0) (replicate 513 0) c.solve.new.left c.solve.new.right c.solve.result c.unwrap-a.result c.solve.ensures.answer c.unwrap-a.ensures).left_counted in search rules

pub slice_bounds-pair-end : goal.slice_bounds-pair-end
slice_bounds-pair-end g c =
    let h : c.unwrap-a.result.0 ≤ length c.solve.new.left = cut_most (c.checks-checks.result + 1) c.unwrap-a.result.0 c.solve.new.left (answered_solved (g.F.Field.means c.args.self.now.over.field.now) c.args.modified.now c.checks-checks.result (order c.args.s) (replicate 513 0) (replicate 513 0) c.solve.new.left c.solve.new.right c.solve.result c.unwrap-a.result c.solve.ensures.answer c.unwrap-a.ensures).left_counted in
    let e = length-take c.unwrap-a.result.0 c.solve.new.left in
    omega arith

pub slice_bounds-right-end : goal.slice_bounds-right-end
slice_bounds-right-end g c = let h = cut_most (c.checks-checks.result + 1) c.unwrap-a.result.1 c.solve.new.right (answered_solved (g.F.Field.means c.args.self.now.over.field.now) c.args.modified.now c.checks-checks.result (order c.args.s) (replicate 513 0) (replicate 513 0) c.solve.new.left c.solve.new.right c.solve.result c.unwrap-a.result c.solve.ensures.answer c.unwrap-a.ensures).right_counted in search rules

pub slice_bounds-pair-end-2 : goal.slice_bounds-pair-end-2
slice_bounds-pair-end-2 g c =
    let h : c.unwrap-a.result.1 ≤ length c.solve.new.right = cut_most (c.checks-checks.result + 1) c.unwrap-a.result.1 c.solve.new.right (answered_solved (g.F.Field.means c.args.self.now.over.field.now) c.args.modified.now c.checks-checks.result (order c.args.s) (replicate 513 0) (replicate 513 0) c.solve.new.left c.solve.new.right c.solve.result c.unwrap-a.result c.solve.ensures.answer c.unwrap-a.ensures).right_counted in
    let e = length-take c.unwrap-a.result.1 c.solve.new.right in
    omega arith

pub invariant_of-pair : goal.invariant_of-pair
invariant_of-pair g c =
    let self = c.args.self.now in
    let field = self.over.field.now in
    let f = g.F.Field.means field in
    let l = g.met.F.Field.lawful field in
    let size : f.q ≡ g.row.Q = g.met.F.Fixed.size field in
    let turn : f.m ≡ g.row.M = g.met.F.Fixed.turn field in
    let sh = shape self.over.code in
    let w = self.word.now in
    let ww : Word f.q sh.n w = subst (λ (q : ℕ). Word q sh.n w) (sym size) (record { long = self.long; symbols = self.symbols }) in
    let cn : sh.n ≤ f.m = omega (arith, turn, self.over.fits) in
    let xs = c.solve.new.left in
    let ys = c.solve.new.right in
    let a = c.unwrap-a.result.0 in
    let b = c.unwrap-a.result.1 in
    let solved = (answered_solved (g.F.Field.means c.args.self.now.over.field.now) c.args.modified.now c.checks-checks.result (order c.args.s) (replicate 513 0) (replicate 513 0) c.solve.new.left c.solve.new.right c.solve.result c.unwrap-a.result c.solve.ensures.answer c.unwrap-a.ensures) in
    let below : (zs : List ℕ) (n : ℕ) → Within f.q (take n zs) → Within g.row.Q (take n zs) = λ zs n h. subst (λ (q : ℕ). Within q (take n zs)) size h in
    let evaluator = below xs a (left_in f l sh cn self.erased.now w c.args.modified.now ww c.requires.row c.args.s _ c.requires.number (order_is c.args.s c.requires.few) c.checks-checks.result c.checks-checks.ensures _ _ xs ys _ solved) in
    let locator = below ys b (right_in f l sh cn self.erased.now w c.args.modified.now ww c.requires.row c.args.s _ c.requires.number (order_is c.args.s c.requires.few) c.checks-checks.result c.checks-checks.ensures _ _ xs ys _ solved) in
    record { left = evaluator; right = locator }

pub returns : goal.returns
returns g c =
    let self = c.args.self.now in
    let field = self.over.field.now in
    let f = g.F.Field.means field in
    let l = g.met.F.Field.lawful field in
    let size : f.q ≡ g.row.Q = g.met.F.Fixed.size field in
    let turn : f.m ≡ g.row.M = g.met.F.Fixed.turn field in
    let sh = shape self.over.code in
    let w = self.word.now in
    let ww : Word f.q sh.n w = subst (λ (q : ℕ). Word q sh.n w) (sym size) (record { long = self.long; symbols = self.symbols }) in
    let cn : sh.n ≤ f.m = omega (arith, turn, self.over.fits) in
    repaired f l sh cn self.erased.now w c.args.modified.now ww c.requires.row c.args.s _ c.requires.number (order_is c.args.s c.requires.few) c.checks-checks.result c.checks-checks.ensures
    _ _ c.solve.new.left c.solve.new.right _ (answered_solved (g.F.Field.means c.args.self.now.over.field.now) c.args.modified.now c.checks-checks.result (order c.args.s) (replicate 513 0) (replicate 513 0) c.solve.new.left c.solve.new.right c.solve.result c.unwrap-a.result c.solve.ensures.answer c.unwrap-a.ensures) (is_ok c.attempt.result) c.attempt.new.out c.attempt.ensures

pub unwrap-a-requires : goal.unwrap-a-requires
unwrap-a-requires g c =
    let self = c.args.self.now in
    let field = self.over.field.now in
    let f = g.F.Field.means field in
    let l = g.met.F.Field.lawful field in
    let size : f.q ≡ g.row.Q = g.met.F.Fixed.size field in
    let turn : f.m ≡ g.row.M = g.met.F.Fixed.turn field in
    let code = self.over.code in
    let sh = shape code in
    let w = self.word.now in
    let s = c.args.s in
    let s_few : s ≤ 512 = c.requires.few in
    let ww : Word f.q sh.n w = subst (λ (q : ℕ). Word q sh.n w) (sym size) (record { long = self.long; symbols = self.symbols }) in
    let cn : sh.n ≤ f.m = omega (arith, turn, self.over.fits) in
    answered_ok (g.F.Field.means c.args.self.now.over.field.now) c.args.modified.now c.checks-checks.result (order c.args.s) (replicate 513 0) (replicate 513 0) c.solve.new.left c.solve.new.right c.solve.result c.solve.ensures.answer
    (λ k. not_refused f l sh cn self.erased.now w c.args.modified.now ww c.requires.row s _ c.requires.number (order_is s s_few) c.checks-checks.result 513 513 k c.checks-checks.ensures
    (omega (arith, code.few)) (omega (arith, code.few)) (omega (arith, code.some)) code.few (order_low s s_few) (order_high s s_few))
