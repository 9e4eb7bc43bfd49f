use Rattle.laws_programs.proofs.Storage.OwnerLaws.{variables_are_hidden}
use Rattle.laws_programs.proofs.owners.variables_are_hidden.Goals as goal

pub returns : goal.returns
returns c = variables_are_hidden
