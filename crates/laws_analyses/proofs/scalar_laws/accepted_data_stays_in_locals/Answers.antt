use Rattle.laws_analyses.proofs.DataLaws.{accepted_data_stays_in_locals}
use Rattle.laws_analyses.proofs.scalar_laws.accepted_data_stays_in_locals.Goals as goal

pub returns : goal.returns
returns c = accepted_data_stays_in_locals c.integers_fit.ensures c.data_stays_in_locals.ensures
