use Rattle.std.proofs.Common.{◌≡◌, ◌-◌, ◌<◌, ◌++◌, length, get_or, drop, replicate, sym, ap, ◌∙◌, subst, ap₂, arith, rules}
use Rattle.std.proofs.lemmas.List.{length_push, length-reverse}
use Rattle.std.proofs.lemmas.Grind.{common_steps}
use Rattle.std.proofs.lemmas.Iterator.Adapters.{YieldsList-from_rev_slice}
use Rattle.std.proofs.lemmas.Iterator.Consumers.{YieldsList-turn, YieldsList-end}
use Rattle.field.specs.Symbols.{Within}
use Rattle.code.specs.Shape.{shape}
use Rattle.code.specs.Words.{Word}
use Rattle.encoder.specs.Encodes.{Encodes}
use Rattle.encoder.proofs.Turns.{zeros_at, word_in, drop_in}
use Rattle.encoder.proofs.Holding.{Holding, holding_start, holding_more, from_tail, fed}
use Rattle.encoder.proofs.Encoding.{encodes}
use Rattle.encoder.proofs.lay_checks.Goals as goal

pub loop-x-init : goal.loop-x-init
loop-x-init g c =
    let f = g.F.Field.means c.args.over.now.field.now in
    let code = shape c.args.over.now.code in
    let m = drop code.checks c.args.word.now in
    let v = c.fill.new.self in
    let is : v ≡ replicate (length c.split_at_mut-register.result.0.now) 0 = search rules in
    subst (λ n. Holding f code.first code.checks n m v) (omega arith)
    (holding_start f (g.met.F.Field.lawful _) code.first code.checks m v (λ i. ap (λ xs. get_or xs i 0) is ∙ zeros_at _ i))

pub turn-requires : goal.turn-requires
turn-requires g c =
    let f = g.F.Field.means c.args.over.now.field.now in
    let l = g.met.F.Field.lawful c.args.over.now.field.now in
    let code = shape c.args.over.now.code in
    let w = c.args.word.now in
    let m = drop code.checks w in
    let w_in : Within f.q w = word_in f l _ code.n w (g.met.F.Fixed.size c.args.over.now.field.now) c.requires in
    let read = c.iter.result.rest.now in
    let tail : read ≡ drop (length m - length read) m = grind (arith, common_steps) in
    let t = YieldsList-turn (YieldsList-from_rev_slice read cc) c.loop-x.yielded _ c.loop-x.yielded_by _ _ c.in-Some.x c.in-Some.is c.next.ensures.steps in
    let x_is = (from_tail m read _ _ tail t.0 t.1).1 in
    let x_in : c.in-Some.x.now < f.q = rw x_is (drop_in f l code.checks w w_in _) in
    let v_in = c.loop-x.invariant.within in
    record {
      some = omega arith;
      read = omega arith;
      factor = (fed f l _ _ _ _ c.opposite.ensures.within c.sum-c.ensures.within (omega (arith, v_in)) (omega (arith, v_in))).1;
      symbols = c.generator-g.ensures.within;
      held = v_in;
    }

pub loop-x-preserved : goal.loop-x-preserved
loop-x-preserved g c =
    let f = g.F.Field.means c.args.over.now.field.now in
    let l = g.met.F.Field.lawful c.args.over.now.field.now in
    let code = shape c.args.over.now.code in
    let w = c.args.word.now in
    let m = drop code.checks w in
    let n = length c.loop-x.yielded in
    let i = length m - 1 - n in
    let old = c.loop-x.register in
    let r = length old - 1 in
    let m_in = drop_in f l code.checks w (word_in f l _ code.n w (g.met.F.Fixed.size c.args.over.now.field.now) c.requires) in
    let read = c.iter.result.rest.now in
    let tail : read ≡ drop (length m - length read) m = grind (arith, common_steps) in
    let t = YieldsList-turn (YieldsList-from_rev_slice read cc) c.loop-x.yielded _ c.loop-x.yielded_by _ _ c.in-Some.x c.in-Some.is c.next.ensures.steps in
    let p = from_tail m read _ _ tail t.0 t.1 in
    let low : n < length m = p.0 in
    let x_in : c.in-Some.x.now < f.q = rw p.1 (m_in _) in
    let v_in = c.loop-x.invariant.within in
    let back = fed f l _ _ _ _ c.opposite.ensures.within c.sum-c.ensures.within (omega (arith, v_in)) (omega (arith, v_in)) in
    let fed_is : c.sum-c.result ≡ f.sum c.in-Some.x.now (f.opp (get_or old r 0)) = back.0 ∙ ap₂ (λ b a. f.sum b (f.opp a)) (omega arith) (ap (λ k. get_or old k 0) (omega arith)) in
    subst (λ k. Holding f code.first code.checks k m c.turn.new.to) (omega (arith, length_push c.loop-x.yielded c.in-Some.x))
    (holding_more f l code.first code.checks r (length m - n) i c.sum-c.result c.in-Some.x.now c.generator-g.result m old c.turn.new.to
    (omega arith) (omega arith) (omega arith) c.generator-g.ensures m_in c.loop-x.invariant p.1 fed_is c.turn.ensures)

pub returns : goal.returns
returns g c =
    let f = g.F.Field.means c.args.over.now.field.now in
    let l = g.met.F.Field.lawful c.args.over.now.field.now in
    let code = shape c.args.over.now.code in
    let w = c.args.word.now in
    let m = drop code.checks w in
    let size : f.q ≡ g.row.Q = g.met.F.Fixed.size c.args.over.now.field.now in
    let turn : f.m ≡ g.row.M = g.met.F.Fixed.turn c.args.over.now.field.now in
    let word : Word f.q code.n w = subst (λ q. Word q code.n w) (sym size) c.requires in
    let fits = c.args.over.now.fits in
    let read = c.iter.result.rest.now in
    let t = (YieldsList-end (YieldsList-from_rev_slice read cc) c.loop-x.yielded _ c.loop-x.yielded_by _ _ c.in-None.is c.next.ensures.steps).1 in
    let rest : c.split_at_mut-register.result.1.now ≡ m = c.split_at_mut-register.ensures.back ∙ ap (λ k. drop k w) c.checks-checks.ensures in
    subst (λ xs. Encodes f code w (c.loop-x.register ++ xs)) (sym rest)
    (encodes f l code w c.loop-x.register (omega arith) (omega arith) word (omega arith)
    (subst (λ k. Holding f code.first code.checks k m c.loop-x.register) (omega (arith, t, length-reverse read, ap length c.iter.ensures.rest, ap length rest)) c.loop-x.invariant))
