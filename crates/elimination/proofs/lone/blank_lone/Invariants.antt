use Rattle.std.proofs.Common.{take}
use Rattle.elimination.proofs.LoneSteps.{Blanked}
use Rattle.elimination.proofs.lone.blank_lone.Given as goal

abbrev pub invariant-loop-i : goal.invariant-loop-i
invariant-loop-i l = Blanked l.fn.items.items l.items.items l.table (take l.i l.vars)
