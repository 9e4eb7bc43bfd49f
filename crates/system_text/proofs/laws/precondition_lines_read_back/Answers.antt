use Rattle.system_text.proofs.LinesBack.{precondition_lines_read_back}
use Rattle.system_text.proofs.laws.precondition_lines_read_back.Goals as goal

pub returns : goal.returns
returns c = precondition_lines_read_back
