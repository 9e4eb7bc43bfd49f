use Rattle.laws_programs.proofs.Storage.KeepLaws.{scalars_lie}
use Rattle.laws_programs.proofs.calls.scalars_lie.Goals as goal

pub returns : goal.returns
returns c = scalars_lie
