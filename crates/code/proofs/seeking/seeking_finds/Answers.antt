use Rattle.code.proofs.Finding.{finds_none, finds_passing, finds_only}
use Rattle.code.proofs.seeking.seeking_finds.Goals as goal

pub returns : goal.returns
returns c = record { none = finds_none; passing = finds_passing; only = finds_only }
