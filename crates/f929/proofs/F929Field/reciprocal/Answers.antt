use Rattle.std.proofs.Common.{ℕ, ◌%◌, Some, ap, ◌∙◌, mul_comm, rules}
use Rattle.field.proofs.Reciprocals.{recip_unique}
use Rattle.f929.specs.Residues.{residues}
use Rattle.f929.specs.ResiduesLemmas.{residues_laws}
use Rattle.f929.proofs.Prime.{prime}
use Rattle.f929.proofs.F929Field.reciprocal.Goals as goal

pub inverse-requires-clause-coprime : goal.inverse-requires-clause-coprime
inverse-requires-clause-coprime c = prime c.args.x (search rules) (search rules)

pub returns-then-contains-clause-within : goal.returns-then-contains-clause-within
returns-then-contains-clause-within c h nz =
    let x = c.args.x in
    let r = c.inverse.result in
    ap Some (recip_unique residues residues_laws x r h nz c.inverse.ensures.below (ap (λ (n : ℕ). n % 929) (mul_comm x r) ∙ c.inverse.ensures.right))
