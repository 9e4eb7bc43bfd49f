use Rattle.roundtrip_programs.proofs.ModuleTexts.Built.{built_well}
use Rattle.roundtrip_programs.proofs.modules.built_well.Goals as goal

pub returns : goal.returns
returns c = built_well
