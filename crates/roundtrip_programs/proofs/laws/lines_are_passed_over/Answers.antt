use Rattle.roundtrip_programs.proofs.Shown.{lines_are_passed_over}
use Rattle.roundtrip_programs.proofs.laws.lines_are_passed_over.Goals as goal

pub returns : goal.returns
returns c = lines_are_passed_over
