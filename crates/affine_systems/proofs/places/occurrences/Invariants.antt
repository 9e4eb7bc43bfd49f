use Rattle.std.proofs.Common.{take}
use Rattle.affine_systems.proofs.PlaceSteps.{Counted}
use Rattle.affine_systems.proofs.places.occurrences.Given as goal

abbrev pub invariant-loop-item : goal.invariant-loop-item
invariant-loop-item l = Counted l.table (take l.item-index l.items)
