use Rattle.laws_programs.proofs.Storage.OwnerLaws.{called_owns_no_expression}
use Rattle.laws_programs.proofs.owners.called_owns_no_expression.Goals as goal

pub returns : goal.returns
returns c = called_owns_no_expression
