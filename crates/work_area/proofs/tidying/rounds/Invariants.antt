use Rattle.std.proofs.Common.{◌+◌, ◌-◌, ◌*◌, ◌≤◌, ◌^◌, false}
use Rattle.affine_systems.specs.Tidy.{tidy_turns}
use Rattle.affine_systems.proofs.TurnSteps.{TurnsLeft}
use Rattle.work_area.specs.Tables.{items_of, IsSound, KeepsReady, MadeBelow}
use Rattle.work_area.proofs.tidying.rounds.Given as goal

abbrev pub invariant-loop-turns : goal.invariant-loop-turns
invariant-loop-turns l = record {
  left : TurnsLeft false (items_of l.tables) l.lost l.turns (tidy_turns l.fn.turns false (items_of l.fn.tables));
  sound : IsSound l.tables;
  fewer : l.turns ≤ l.fn.turns;
  below : MadeBelow (3 * 2 ^ 125 + 1024 * (l.fn.turns - l.turns)) (items_of l.tables);
  ready : KeepsReady l.fn.tables l.tables;
}

abbrev pub decreases-loop-turns : goal.decreases-loop-turns
decreases-loop-turns l = l.turns
