use Rattle.roundtrip_programs.proofs.ModuleTexts.Kept.{cards_read}
use Rattle.roundtrip_programs.proofs.modules.cards_read.Goals as goal

pub returns : goal.returns
returns c = cards_read
