use Rattle.std.proofs.Common.{◌≡◌, length}
use Rattle.std.specs.List.{list_any}
use Rattle.tracked_cells.specs.Tracked.{is_unit}
use Rattle.tracked_cells.proofs.cells.is_untracked.Given as goal

abbrev pub invariant-loop-rest : goal.invariant-loop-rest
invariant-loop-rest l = list_any (is_unit l.block l.offset) l.rest ≡ list_any (is_unit l.block l.offset) l.fn.untracked

abbrev pub decreases-loop-rest : goal.decreases-loop-rest
decreases-loop-rest l = length l.rest
