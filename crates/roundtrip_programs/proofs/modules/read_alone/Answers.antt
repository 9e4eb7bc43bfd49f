use Rattle.roundtrip_programs.proofs.ModuleTexts.Alone.{read_alone}
use Rattle.roundtrip_programs.proofs.modules.read_alone.Goals as goal

pub returns : goal.returns
returns c = read_alone
