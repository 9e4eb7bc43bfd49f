use Rattle.std.proofs.Common.{◌≡◌, map, replicate}
use Rattle.pipsmake_meaning.specs.MemoCells.{no_memo_cell}
use Rattle.result_store.specs.Rows.{memo_cell_tree}
use Rattle.result_store.proofs.row.empty_memo_cells.Given as goal

abbrev pub invariant-loop-kind : goal.invariant-loop-kind
invariant-loop-kind l = map memo_cell_tree l.memo_cells.items ≡ replicate l._kind no_memo_cell
