use Rattle.laws_lines.proofs.Marks.DirectiveBack.{directives_read_back}
use Rattle.laws_lines.proofs.mark_laws.directives_read_back.Goals as goal

pub returns : goal.returns
returns c = directives_read_back
