use Rattle.f77_meaning.proofs.LinkedLaws.{linked_have_blocks}
use Rattle.f77_meaning.proofs.laws.linked_have_blocks.Goals as goal

pub returns : goal.returns
returns c = linked_have_blocks
