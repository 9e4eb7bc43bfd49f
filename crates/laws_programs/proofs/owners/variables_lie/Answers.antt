use Rattle.laws_programs.proofs.Storage.OwnerLaws.{variables_lie}
use Rattle.laws_programs.proofs.owners.variables_lie.Goals as goal

pub returns : goal.returns
returns c = variables_lie
