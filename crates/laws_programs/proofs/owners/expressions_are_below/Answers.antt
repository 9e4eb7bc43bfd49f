use Rattle.laws_programs.proofs.Storage.OwnerLaws.{expressions_are_below}
use Rattle.laws_programs.proofs.owners.expressions_are_below.Goals as goal

pub returns : goal.returns
returns c = expressions_are_below
