use Rattle.laws_lines.proofs.Marks.Passed.{loop_lines_are_passed_over}
use Rattle.laws_lines.proofs.mark_laws.loop_lines_are_passed_over.Goals as goal

pub returns : goal.returns
returns c = loop_lines_are_passed_over
