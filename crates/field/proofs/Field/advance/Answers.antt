use Rattle.std.proofs.Common.{rules}
use Rattle.field.proofs.Field.advance.Goals as goal

pub returns : goal.returns
returns g c = record {
  done = λ j hp hr hw hx hy. let h = c.update.ensures.done j hp hr in search rules;
  rest = c.update.ensures.rest;
}
