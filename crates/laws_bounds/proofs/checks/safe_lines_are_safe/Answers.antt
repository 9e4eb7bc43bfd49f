use Rattle.laws_bounds.proofs.Lines.{safe_lines_are_safe}
use Rattle.laws_bounds.proofs.checks.safe_lines_are_safe.Goals as goal

pub returns : goal.returns
returns c = safe_lines_are_safe
