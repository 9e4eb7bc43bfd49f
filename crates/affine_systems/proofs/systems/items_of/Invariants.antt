use Rattle.std.proofs.Common.{◌≡◌, ◌++◌, reverse, vec_len}
use Rattle.affine_systems.specs.Items.{items_from}
use Rattle.affine_systems.proofs.systems.items_of.Given as goal

abbrev pub invariant-loop-row : goal.invariant-loop-row
invariant-loop-row l = items_from 0 l.rows.items ++ reverse l.out.items ≡ items_from 0 l.fn.rows.items

abbrev pub decreases-loop-row : goal.decreases-loop-row
decreases-loop-row l = vec_len l.rows
