use Rattle.laws_lines.proofs.RegionTexts.LineBack.{region_lines_read_back}
use Rattle.laws_lines.proofs.region_text_laws.region_lines_read_back.Goals as goal

pub returns : goal.returns
returns c = region_lines_read_back
