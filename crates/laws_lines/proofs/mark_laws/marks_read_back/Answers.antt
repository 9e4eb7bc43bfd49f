use Rattle.laws_lines.proofs.Marks.WholeText.{marks_read_back}
use Rattle.laws_lines.proofs.mark_laws.marks_read_back.Goals as goal

pub returns : goal.returns
returns c = marks_read_back
