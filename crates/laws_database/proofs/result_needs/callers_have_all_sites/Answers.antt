use Rattle.laws_database.proofs.ResultSites.{all_sites}
use Rattle.laws_database.proofs.result_needs.callers_have_all_sites.Goals as goal

pub returns : goal.returns
returns c = all_sites
