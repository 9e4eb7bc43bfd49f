use Rattle.system_text.proofs.LinesBack.{transformer_lines_read_back}
use Rattle.system_text.proofs.laws.transformer_lines_read_back.Goals as goal

pub returns : goal.returns
returns c = transformer_lines_read_back
