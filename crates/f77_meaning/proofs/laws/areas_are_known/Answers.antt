use Rattle.f77_meaning.proofs.BlockLaws.{areas_are_known}
use Rattle.f77_meaning.proofs.laws.areas_are_known.Goals as goal

pub returns : goal.returns
returns c = areas_are_known
