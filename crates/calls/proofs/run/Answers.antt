use Rattle.calls.specs.Steps.{step}
use Rattle.calls.proofs.Stepping.{through_append}
use Rattle.calls.proofs.run.Goals as goal

pub returns-clause-composes : goal.returns-clause-composes
returns-clause-composes g c f p xs ys = through_append (step f) p xs ys
