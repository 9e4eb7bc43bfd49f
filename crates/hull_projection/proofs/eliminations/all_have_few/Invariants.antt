use Rattle.std.proofs.Common.{◌≡◌, true, take}
use Rattle.affine_systems.specs.Items.{AllItems}
use Rattle.hull_projection.specs.Refute.{has_few}
use Rattle.hull_projection.proofs.eliminations.all_have_few.Given as goal

abbrev pub invariant-loop-item : goal.invariant-loop-item
invariant-loop-item l = AllItems (λ i. has_few l.pairs i ≡ true) (take l.item-index l.items)
