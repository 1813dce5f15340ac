use Rattle.std.proofs.Common.{ℕ, ◌%◌, ap, ◌∙◌}
use Rattle.field.specs.Meaning.{pow}
use Rattle.field.proofs.Powers.{pow_mod}
use Rattle.f256.specs.Bytes.{bytes}
use Rattle.f256.specs.BytesLemmas.{bytes_laws}
use Rattle.f256.proofs.F256Field.power.Goals as goal

pub returns : goal.returns
returns c = c.power_of.ensures ∙ ap (λ (k : ℕ). pow bytes 2 (k % 255)) c.from.ensures ∙ pow_mod bytes bytes_laws c.args.i
