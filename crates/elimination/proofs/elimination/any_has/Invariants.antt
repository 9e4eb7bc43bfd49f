use Rattle.std.proofs.Common.{◌≡◌, drop}
use Rattle.affine_systems.specs.Eliminate.{any_has}
use Rattle.elimination.proofs.elimination.any_has.Given as goal

abbrev pub invariant-loop-item : goal.invariant-loop-item
invariant-loop-item l = any_has l.v (drop l.item-index l.items) ≡ any_has l.fn.v l.fn.items
