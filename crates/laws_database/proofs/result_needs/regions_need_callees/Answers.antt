use Rattle.laws_database.proofs.ResultRegionLaws.{same_regions}
use Rattle.laws_database.proofs.result_needs.regions_need_callees.Goals as goal

pub returns : goal.returns
returns c = same_regions
