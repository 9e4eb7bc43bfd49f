use Rattle.roundtrip_programs.proofs.ModuleTexts.Alone.{read_next}
use Rattle.roundtrip_programs.proofs.modules.read_next.Goals as goal

pub returns : goal.returns
returns c = read_next
