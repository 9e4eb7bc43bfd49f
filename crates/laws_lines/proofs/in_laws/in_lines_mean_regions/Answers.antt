use Rattle.laws_lines.proofs.Ins.InPrograms.{in_lines_mean_regions}
use Rattle.laws_lines.proofs.in_laws.in_lines_mean_regions.Goals as goal

pub returns : goal.returns
returns c = in_lines_mean_regions
