use Rattle.laws_database.proofs.ResultEntries.{have_passes}
use Rattle.laws_database.proofs.result_equations.entries_have_passes.Goals as goal

pub returns : goal.returns
returns c = have_passes
