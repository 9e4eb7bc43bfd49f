use Rattle.laws_lines.proofs.Marks.Passed.{obstacles_are_no_directives}
use Rattle.laws_lines.proofs.mark_laws.obstacles_are_no_directives.Goals as goal

pub returns : goal.returns
returns c = obstacles_are_no_directives
