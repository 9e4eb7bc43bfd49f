use Rattle.std.proofs.Common.{◌≡◌, ◌++◌, map, take, drop}
use Rattle.pipsmake_meaning.specs.MemoCells.{forgotten}
use Rattle.result_store.specs.Rows.{memo_cell_tree}
use Rattle.result_store.proofs.row.forget_all.Given as goal

abbrev pub invariant-loop-memo_cell : goal.invariant-loop-memo_cell
invariant-loop-memo_cell l = map memo_cell_tree l.memo_cells ≡ map (λ s. forgotten (memo_cell_tree s)) (take l.memo_cell-index l.fn.memo_cells) ++ map memo_cell_tree (drop l.memo_cell-index l.fn.memo_cells)
