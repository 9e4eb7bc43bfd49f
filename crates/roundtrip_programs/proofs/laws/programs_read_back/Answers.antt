use Rattle.roundtrip_programs.proofs.Back.{programs_read_back}
use Rattle.roundtrip_programs.proofs.laws.programs_read_back.Goals as goal

pub returns : goal.returns
returns c = programs_read_back c.texts_read_back.ensures
