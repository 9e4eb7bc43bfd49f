use Rattle.laws_analyses.proofs.Whole.{whole_analyses_hold}
use Rattle.laws_analyses.proofs.analysis_laws.whole_analyses_hold.Goals as goal

pub returns : goal.returns
returns c = whole_analyses_hold c.analysed_programs_hold.ensures
