use Rattle.laws_bounds.proofs.Faults.{inside_never_faults}
use Rattle.laws_bounds.proofs.checks.inside_never_faults.Goals as goal

pub returns : goal.returns
returns c = inside_never_faults
