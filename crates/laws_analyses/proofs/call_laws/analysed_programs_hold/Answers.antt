use Rattle.laws_analyses.proofs.WholeCalls.{analysed_programs_hold}
use Rattle.laws_analyses.proofs.call_laws.analysed_programs_hold.Goals as goal

pub returns : goal.returns
returns c = analysed_programs_hold c.program_holds.ensures
