use Rattle.std.proofs.Common.{◌≡◌, ℕ, ◌-◌, length, get_or, replicate, take, sym, ap, ◌∙◌, subst, arith, rules}
use Rattle.field.specs.Symbols.{Within}
use Rattle.code.specs.Shape.{shape}
use Rattle.encoder.specs.Register.{Divided}
use Rattle.encoder.proofs.Turns.{zeros_at, word_in, take_in}
use Rattle.encoder.proofs.Summing.{zero_values, zeros_pass, values_pass, values_sums}
use Rattle.encoder.proofs.write_syndromes.Goals as goal

pub divide-requires : goal.divide-requires
divide-requires g c =
    let f = g.F.Field.means c.args.over.now.field.now in
    let l = g.met.F.Field.lawful c.args.over.now.field.now in
    let w = c.args.word.now in
    let w_in : Within f.q w = word_in f l _ _ w (g.met.F.Fixed.size c.args.over.now.field.now) c.requires.word in
    (omega arith, (c.generator.ensures, (omega arith, rw c.copy_from_slice.ensures.after w_in)))

pub returns-then-is_below : goal.returns-then-is_below
returns-then-is_below g c =
    let f = g.F.Field.means c.args.over.now.field.now in
    let l = g.met.F.Field.lawful c.args.over.now.field.now in
    let sh = shape c.args.over.now.code in
    let w = c.args.word.now in
    let row = c.divide.new.row in
    let old = c.args.out.now in
    let new = c.fill.new.self in
    let k = length old - 0 in
    let d : Divided f sh.first sh.checks w row = subst (λ v. Divided f sh.first sh.checks v row) c.copy_from_slice.ensures.after c.divide.ensures in
    let is : new ≡ replicate (length old) 0 = search rules in
    let zeros : (i : ℕ) → get_or new i 0 ≡ 0 = λ i. ap (λ xs. get_or xs i 0) is ∙ zeros_at _ i in
    let vs = zero_values f l sh.first (take k row) new (sym c.is_below.ensures ∙ c.if-is_below.true) zeros in
    record {
      all = zeros_pass f l sh w row k d (omega arith) (omega arith) old new (omega arith) (omega arith) vs zeros;
      each = values_sums f l sh w row k d (omega arith) (omega arith) old new (omega arith) (omega arith) vs;
    }

pub evaluate-requires : goal.evaluate-requires
evaluate-requires g c =
    let f = g.F.Field.means c.args.over.now.field.now in
    (omega arith, (omega arith, take_in f (g.met.F.Field.lawful _) _ c.divide.new.row c.divide.ensures.within))

pub returns : goal.returns
returns g c =
    let f = g.F.Field.means c.args.over.now.field.now in
    let l = g.met.F.Field.lawful c.args.over.now.field.now in
    let sh = shape c.args.over.now.code in
    let w = c.args.word.now in
    let row = c.divide.new.row in
    let old = c.args.out.now in
    let new = c.evaluate.new.out in
    let k = length old - 0 in
    let d : Divided f sh.first sh.checks w row = subst (λ v. Divided f sh.first sh.checks v row) c.copy_from_slice.ensures.after c.divide.ensures in
    record {
      all = c.is_below-2.ensures ∙ values_pass f l sh w row k d (omega arith) (omega arith) old new (omega arith) (omega arith) c.evaluate.ensures;
      each = values_sums f l sh w row k d (omega arith) (omega arith) old new (omega arith) (omega arith) c.evaluate.ensures;
    }
