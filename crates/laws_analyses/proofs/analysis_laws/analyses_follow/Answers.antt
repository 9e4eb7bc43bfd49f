use Rattle.laws_analyses.proofs.Whole.{analyses_follow}
use Rattle.laws_analyses.proofs.analysis_laws.analyses_follow.Goals as goal

pub returns : goal.returns
returns c = analyses_follow
