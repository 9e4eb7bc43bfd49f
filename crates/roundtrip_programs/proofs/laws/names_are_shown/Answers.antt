use Rattle.roundtrip_programs.proofs.Back.{names_are_shown}
use Rattle.roundtrip_programs.proofs.laws.names_are_shown.Goals as goal

pub returns : goal.returns
returns c = names_are_shown
