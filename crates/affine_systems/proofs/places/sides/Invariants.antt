use Rattle.std.proofs.Common.{take}
use Rattle.affine_systems.specs.Places.{Sided}
use Rattle.affine_systems.proofs.places.sides.Given as goal

abbrev pub invariant-loop-item : goal.invariant-loop-item
invariant-loop-item l = Sided l.table (take l.item-index l.items)
