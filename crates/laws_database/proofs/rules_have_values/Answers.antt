use Rattle.laws_database.proofs.Whole.{rules_have_values}
use Rattle.laws_database.proofs.rules_have_values.Goals as goal

pub returns : goal.returns
returns c = rules_have_values
