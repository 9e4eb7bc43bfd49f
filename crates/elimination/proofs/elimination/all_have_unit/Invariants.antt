use Rattle.std.proofs.Common.{◌≡◌, drop}
use Rattle.affine_systems.specs.Eliminate.{all_have_unit}
use Rattle.elimination.proofs.elimination.all_have_unit.Given as goal

abbrev pub invariant-loop-item : goal.invariant-loop-item
invariant-loop-item l = all_have_unit l.v (drop l.item-index l.items) ≡ all_have_unit l.fn.v l.fn.items
