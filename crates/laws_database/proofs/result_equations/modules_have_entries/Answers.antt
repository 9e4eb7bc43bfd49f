use Rattle.laws_database.proofs.ResultEntries.{modules_have_entries}
use Rattle.laws_database.proofs.result_equations.modules_have_entries.Goals as goal

pub returns : goal.returns
returns c = modules_have_entries
