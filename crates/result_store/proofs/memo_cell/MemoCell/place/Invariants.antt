use Rattle.std.proofs.Common.{◌≤◌, length, map, drop}
use Rattle.pipsmake_meaning.specs.MemoCells.{IsNew}
use Rattle.result_store.specs.Values.{value_tree}
use Rattle.result_store.proofs.memo_cell.MemoCell.place.Given as goal

abbrev pub invariant-loop-at : goal.invariant-loop-at
invariant-loop-at l = (l.at ≤ length l.seen) × IsNew (value_tree l.value) (drop l.at (map value_tree l.seen))

abbrev pub decreases-loop-at : goal.decreases-loop-at
decreases-loop-at l = l.at
