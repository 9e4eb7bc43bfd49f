use Rattle.laws_lines.proofs.Regions.LinesMean.{regions_are_readable}
use Rattle.laws_lines.proofs.region_laws.regions_are_readable.Goals as goal

pub returns : goal.returns
returns c = regions_are_readable
