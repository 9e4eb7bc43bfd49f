use Rattle.region_sets.proofs.LiveLaws.{are_few}
use Rattle.region_sets.proofs.live.regions_are_few.Goals as goal

pub returns : goal.returns
returns c = are_few
