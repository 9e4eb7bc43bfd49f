use Rattle.laws_lines.proofs.RegionTexts.LineBack.{fitting_regions_are_ordered}
use Rattle.laws_lines.proofs.region_text_laws.fitting_regions_are_ordered.Goals as goal

pub returns : goal.returns
returns c = fitting_regions_are_ordered
