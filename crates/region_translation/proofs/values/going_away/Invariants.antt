use Rattle.std.proofs.Common.{◌≡◌, ◌++◌, length}
use Rattle.call_equations.specs.Sides.{sides_tree}
use Rattle.region_translation.specs.Values.{going_away}
use Rattle.region_translation.proofs.values.going_away.Given as goal

abbrev pub invariant-loop-rest : goal.invariant-loop-rest
invariant-loop-rest l = l.out ++ going_away (sides_tree l.sides) l.rest ≡ going_away (sides_tree l.sides) l.vars

abbrev pub decreases-loop-rest : goal.decreases-loop-rest
decreases-loop-rest l = length l.rest
