use Rattle.f77_meaning.proofs.ModuleLaws.{shared_by_table}
use Rattle.f77_meaning.proofs.laws.shared_by_table.Goals as goal

pub returns : goal.returns
returns c = shared_by_table
