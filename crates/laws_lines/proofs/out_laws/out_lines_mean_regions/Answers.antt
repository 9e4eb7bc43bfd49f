use Rattle.laws_lines.proofs.Outs.OutPrograms.{out_lines_mean_regions}
use Rattle.laws_lines.proofs.out_laws.out_lines_mean_regions.Goals as goal

pub returns : goal.returns
returns c = out_lines_mean_regions
