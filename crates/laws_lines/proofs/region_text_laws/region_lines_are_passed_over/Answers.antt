use Rattle.laws_lines.proofs.RegionTexts.Passed.{passed_over}
use Rattle.laws_lines.proofs.region_text_laws.region_lines_are_passed_over.Goals as goal

pub returns : goal.returns
returns c = passed_over c.lines_are_passed_over.ensures
