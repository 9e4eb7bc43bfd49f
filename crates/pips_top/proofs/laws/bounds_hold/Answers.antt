use Rattle.pips_top.proofs.EntryClaims.{bounds_from}
use Rattle.pips_top.proofs.laws.bounds_hold.Goals as goal

pub returns : goal.returns
returns c = bounds_from c.safe_lines_hold.ensures
