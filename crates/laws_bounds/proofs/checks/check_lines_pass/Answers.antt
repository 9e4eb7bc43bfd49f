use Rattle.laws_bounds.proofs.Passed.{check_lines_pass}
use Rattle.laws_bounds.proofs.checks.check_lines_pass.Goals as goal

pub returns : goal.returns
returns c = check_lines_pass
