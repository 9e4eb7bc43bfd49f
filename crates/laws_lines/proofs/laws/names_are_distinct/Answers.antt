use Rattle.laws_lines.proofs.TableNames.{names_are_distinct}
use Rattle.laws_lines.proofs.laws.names_are_distinct.Goals as goal

pub returns : goal.returns
returns c = names_are_distinct
