use Rattle.elimination.proofs.LoneSteps.{HomedTo}
use Rattle.elimination.proofs.lone.homes.Given as goal

abbrev pub invariant-loop-i : goal.invariant-loop-i
invariant-loop-i l = HomedTo l.table l.items l.i
