use Rattle.laws_lines.proofs.Marks.DirectiveBack.{reductions_read_back}
use Rattle.laws_lines.proofs.mark_laws.reductions_read_back.Goals as goal

pub returns : goal.returns
returns c = reductions_read_back
