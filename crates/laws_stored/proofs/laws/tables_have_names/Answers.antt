use Rattle.laws_stored.proofs.Joined.{tables_have_names}
use Rattle.laws_stored.proofs.laws.tables_have_names.Goals as goal

pub returns : goal.returns
returns c = tables_have_names
