use Rattle.laws_lines.proofs.RegionTexts.AddedBack.{added_lines_read_back}
use Rattle.laws_lines.proofs.region_text_laws.added_lines_read_back.Goals as goal

pub returns : goal.returns
returns c = added_lines_read_back
