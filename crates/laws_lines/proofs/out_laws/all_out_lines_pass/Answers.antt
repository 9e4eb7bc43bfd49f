use Rattle.laws_lines.proofs.Outs.OutPrograms.{out_lines_pass}
use Rattle.laws_lines.proofs.out_laws.all_out_lines_pass.Goals as goal

pub returns : goal.returns
returns c = out_lines_pass c.region_lines_are_passed_over.ensures
