use Rattle.pips_top.proofs.BoundsResults.{are_checked_so}
use Rattle.pips_top.proofs.example_laws.references_are_checked_so.Goals as goal

pub returns : goal.returns
returns c = are_checked_so
