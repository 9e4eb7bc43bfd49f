use Rattle.laws_analyses.proofs.Calls.Programs.{program_holds}
use Rattle.laws_analyses.proofs.call_program_laws.program_holds.Goals as goal

pub returns : goal.returns
returns c = program_holds
