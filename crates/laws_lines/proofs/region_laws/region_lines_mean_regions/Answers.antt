use Rattle.laws_lines.proofs.Regions.LinesMean.{region_lines_mean_regions}
use Rattle.laws_lines.proofs.region_laws.region_lines_mean_regions.Goals as goal

pub returns : goal.returns
returns c = region_lines_mean_regions
