use Rattle.roundtrip_programs.proofs.ModuleTexts.Steps.{blocks_again}
use Rattle.roundtrip_programs.proofs.modules.blocks_again.Goals as goal

pub returns : goal.returns
returns c = blocks_again
