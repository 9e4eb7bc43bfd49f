use Rattle.std.proofs.Common.{vec_len}
use Rattle.affine_systems.proofs.ItemSteps.{IsNormalised}
use Rattle.affine_systems.proofs.tidying.normal_items.Given as goal

abbrev pub invariant-loop-item : goal.invariant-loop-item
invariant-loop-item l = IsNormalised l.rational l.items.items l.out.items l.lost l.fn.items.items

abbrev pub decreases-loop-item : goal.decreases-loop-item
decreases-loop-item l = vec_len l.items
