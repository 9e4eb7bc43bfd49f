use Rattle.std.proofs.Common.{◌≡◌, ◌++◌, reverse, vec_len}
use Rattle.affine_systems.specs.Items.{rows_of}
use Rattle.affine_systems.proofs.systems.rows_of.Given as goal

abbrev pub invariant-loop-item : goal.invariant-loop-item
invariant-loop-item l = rows_of l.items.items ++ reverse l.out.items ≡ rows_of l.fn.items

abbrev pub decreases-loop-item : goal.decreases-loop-item
decreases-loop-item l = vec_len l.items
