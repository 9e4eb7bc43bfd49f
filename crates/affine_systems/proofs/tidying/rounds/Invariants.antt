use Rattle.affine_systems.specs.Tidy.{tidy_turns}
use Rattle.affine_systems.proofs.TurnSteps.{TurnsLeft}
use Rattle.affine_systems.proofs.tidying.rounds.Given as goal

abbrev pub invariant-loop-turns : goal.invariant-loop-turns
invariant-loop-turns l = TurnsLeft l.rational l.items.items l.lost l.turns (tidy_turns l.fn.turns l.fn.rational l.fn.items.items)

abbrev pub decreases-loop-turns : goal.decreases-loop-turns
decreases-loop-turns l = l.turns
