use Rattle.laws_lines.proofs.Regions.LinesPass.{all_pass}
use Rattle.laws_lines.proofs.region_laws.all_region_lines_pass.Goals as goal

pub returns : goal.returns
returns c = all_pass c.region_lines_are_passed_over.ensures
