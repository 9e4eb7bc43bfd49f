use Rattle.laws_analyses.proofs.Whole.{read_analyses_hold}
use Rattle.laws_analyses.proofs.analysis_laws.read_analyses_hold.Goals as goal

pub returns : goal.returns
returns c = read_analyses_hold c.names_agree.ensures c.accepted_data_stays_in_locals.ensures c.jumps_stay_inside.ensures c.whole_analyses_hold.ensures
