use Rattle.std.proofs.Common.{◌%◌, ◌<◌, mod-lt, arith}
use Rattle.f929.proofs.Euclid.{next, left_over, gives_one}
use Rattle.f929.proofs.+inverse.Goals as goal

pub inverse-y-requires : goal.inverse-y-requires
inverse-y-requires t c =
    let more : 1 < c.args.x = omega arith in
    let below : c.args.n % c.args.x < c.args.x = mod-lt c.args.n (omega arith) in
    (omega arith, (left_over c.args.x c.args.n more c.requires.coprime, (below, (omega arith, next c.args.x c.args.n c.requires.coprime))))

pub returns-clause-right : goal.returns-clause-right
returns-clause-right t c = gives_one c.args.x c.args.n c.inverse-y.result (omega arith) c.requires.high c.inverse-y.ensures.below c.inverse-y.ensures.right
