use Rattle.pips_top.proofs.Covering.{all_said_from}
use Rattle.pips_top.proofs.laws.all_is_said.Goals as goal

pub returns : goal.returns
returns c = all_said_from c.analyses_are_whole.ensures c.results_follow.ensures
