use Rattle.laws_analyses.proofs.Regions.Accepted.{read_regions_hold}
use Rattle.laws_analyses.proofs.accepted_laws.read_regions_hold.Goals as goal

pub returns : goal.returns
returns c = read_regions_hold c.names_agree.ensures c.accepted_data_stays_in_locals.ensures c.jumps_stay_inside.ensures c.program_regions_hold.ensures
