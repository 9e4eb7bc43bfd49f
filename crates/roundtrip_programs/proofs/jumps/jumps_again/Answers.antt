use Rattle.roundtrip_programs.proofs.ModuleTexts.JumpsAgain.{jumps_again}
use Rattle.roundtrip_programs.proofs.jumps.jumps_again.Goals as goal

pub returns : goal.returns
returns c = jumps_again
