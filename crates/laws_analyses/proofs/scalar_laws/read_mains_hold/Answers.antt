use Rattle.laws_analyses.proofs.MainLaws.{read_mains_hold}
use Rattle.laws_analyses.proofs.scalar_laws.read_mains_hold.Goals as goal

pub returns : goal.returns
returns c = read_mains_hold c.mains_are_alone.ensures c.main_holds.ensures
