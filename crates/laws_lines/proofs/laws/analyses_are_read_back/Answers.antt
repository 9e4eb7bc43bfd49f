use Rattle.laws_lines.proofs.ProgramLines.{analyses_are_read_back}
use Rattle.laws_lines.proofs.laws.analyses_are_read_back.Goals as goal

pub returns : goal.returns
returns c = analyses_are_read_back
