use Rattle.laws_lines.proofs.Ins.InPrograms.{in_lines_pass}
use Rattle.laws_lines.proofs.in_laws.all_in_lines_pass.Goals as goal

pub returns : goal.returns
returns c = in_lines_pass c.region_lines_are_passed_over.ensures
