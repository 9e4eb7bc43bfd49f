use Rattle.laws_lines.proofs.Regions.ProgramRegions.{regions_are_over_places}
use Rattle.laws_lines.proofs.region_laws.regions_are_over_places.Goals as goal

pub returns : goal.returns
returns c = regions_are_over_places
