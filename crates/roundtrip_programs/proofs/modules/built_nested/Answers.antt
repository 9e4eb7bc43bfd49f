use Rattle.roundtrip_programs.proofs.ModuleTexts.Steps.{built_nested}
use Rattle.roundtrip_programs.proofs.modules.built_nested.Goals as goal

pub returns : goal.returns
returns c = built_nested
