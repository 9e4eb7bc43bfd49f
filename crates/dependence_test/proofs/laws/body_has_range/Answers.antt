use Rattle.dependence_test.proofs.RangeLaws.{has_range}
use Rattle.dependence_test.proofs.laws.body_has_range.Goals as goal

pub returns : goal.returns
returns c = has_range
