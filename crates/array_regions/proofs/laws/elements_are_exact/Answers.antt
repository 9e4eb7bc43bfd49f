use Rattle.array_regions.proofs.Exact.{elements_are_exact}
use Rattle.array_regions.proofs.laws.elements_are_exact.Goals as goal

pub returns : goal.returns
returns c = elements_are_exact
