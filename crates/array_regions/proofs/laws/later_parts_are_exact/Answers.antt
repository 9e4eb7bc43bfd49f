use Rattle.array_regions.proofs.Exact.{later_parts_are_exact}
use Rattle.array_regions.proofs.laws.later_parts_are_exact.Goals as goal

pub returns : goal.returns
returns c = later_parts_are_exact
