use Rattle.f77_meaning.proofs.LinkLaws.{common_is_of_blocks}
use Rattle.f77_meaning.proofs.laws.common_is_of_blocks.Goals as goal

pub returns : goal.returns
returns c = common_is_of_blocks
