use Rattle.std.proofs.Common.{List, length}
use Rattle.affine_systems.specs.declared.row.Row.{Row}
use Rattle.region_sets.specs.Joining.{AreAnswers}
use Rattle.region_sets.proofs.within.answer_of.Given as goal

-- an answer for those that are left is one for all
abbrev pub invariant-loop-rest : goal.invariant-loop-rest
invariant-loop-rest l = (rs : List Row) → AreAnswers rs l.fn.asked → AreAnswers rs l.rest

abbrev pub decreases-loop-rest : goal.decreases-loop-rest
decreases-loop-rest l = length l.rest
