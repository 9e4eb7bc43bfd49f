use Rattle.laws_lines.proofs.RegionTexts.LineBack.{one_system_lines_read_back}
use Rattle.laws_lines.proofs.region_text_laws.one_system_lines_read_back.Goals as goal

pub returns : goal.returns
returns c = one_system_lines_read_back
