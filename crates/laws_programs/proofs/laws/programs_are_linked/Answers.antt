use Rattle.laws_programs.proofs.Tables.{programs_are_linked}
use Rattle.laws_programs.proofs.laws.programs_are_linked.Goals as goal

pub returns : goal.returns
returns c = programs_are_linked
