use Rattle.roundtrip_programs.proofs.Texts.Whole.{texts_read_back}
use Rattle.roundtrip_programs.proofs.text_laws.texts_read_back.Goals as goal

pub returns : goal.returns
returns c = texts_read_back
