use Rattle.laws_bounds.proofs.SafeLines.{safe_lines_hold}
use Rattle.laws_bounds.proofs.checks.safe_lines_hold.Goals as goal

pub returns : goal.returns
returns c = safe_lines_hold c.safe_lines_are_safe.ensures c.read_checks_hold.ensures c.analyses_are_whole.ensures
