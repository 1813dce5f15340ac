use Rattle.std.proofs.Common.{◌≡◌, Some, ap, ◌∙◌}
use Rattle.field.proofs.Reciprocals.{recip_unique}
use Rattle.binary.specs.Polynomials.{product}
use Rattle.f16.specs.Sixteen.{sixteen}
use Rattle.f16.specs.SixteenLemmas.{sixteen_laws, fourteenth, gives_one}
use Rattle.f16.proofs.F16Field.reciprocal.Goals as goal

pub returns-clause-within : goal.returns-clause-within
returns-clause-within c h nz =
    let x = c.args.x in
    let r = c.times-2.result in
    let chain : r ≡ fourteenth x = cc in
    ap Some (recip_unique sixteen sixteen_laws x r h nz c.times-2.ensures.within (ap (product 4 19 x) chain ∙ gives_one x h nz))
