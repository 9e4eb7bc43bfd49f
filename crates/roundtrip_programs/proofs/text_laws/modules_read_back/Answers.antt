use Rattle.roundtrip_programs.proofs.Texts.Whole.{modules_read_back}
use Rattle.roundtrip_programs.proofs.text_laws.modules_read_back.Goals as goal

pub returns : goal.returns
returns c = modules_read_back
