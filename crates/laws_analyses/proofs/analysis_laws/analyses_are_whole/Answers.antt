use Rattle.laws_analyses.proofs.Coverage.{analyses_are_whole}
use Rattle.laws_analyses.proofs.analysis_laws.analyses_are_whole.Goals as goal

pub returns : goal.returns
returns c = analyses_are_whole
