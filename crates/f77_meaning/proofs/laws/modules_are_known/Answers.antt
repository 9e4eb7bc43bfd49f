use Rattle.f77_meaning.proofs.LinkLaws.{modules_are_known}
use Rattle.f77_meaning.proofs.laws.modules_are_known.Goals as goal

pub returns : goal.returns
returns c = modules_are_known
