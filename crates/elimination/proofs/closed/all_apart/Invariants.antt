use Rattle.std.proofs.Common.{take}
use Rattle.affine_systems.specs.Items.{rows_of}
use Rattle.affine_systems.specs.Lone.{AllApart}
use Rattle.elimination.proofs.closed.all_apart.Given as goal

abbrev pub invariant-loop-item : goal.invariant-loop-item
invariant-loop-item l = AllApart (rows_of (take l.item-index l.items)) (rows_of l.items)
