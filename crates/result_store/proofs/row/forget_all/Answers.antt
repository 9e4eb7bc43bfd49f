use Rattle.std.proofs.Common.{◌≡◌, ◌+◌, ◌<◌, ◌++◌, suc, length, map, set, take, drop, subst, sym, ap, ◌∙◌, arith}
use Rattle.pipsmake_meaning.specs.MemoCells.{forgotten}
use Rattle.result_store.specs.Rows.{memo_cell_tree}
use Rattle.result_store.proofs.ListLaws.{forget_step}
use Rattle.result_store.proofs.row.forget_all.Goals as goal

pub loop-memo_cell-preserved : goal.loop-memo_cell-preserved
loop-memo_cell-preserved c =
    let within : c.loop-memo_cell.memo_cell-index < length c.loop-memo_cell.memo_cells = omega (arith, c.loop-memo_cell-test.true, c.loop-memo_cell.auto.memo_cells) in
    let next : suc c.loop-memo_cell.memo_cell-index ≡ c.loop-memo_cell.memo_cell-index + 1 = omega arith in
    subst (λ k. map memo_cell_tree (set c.loop-memo_cell.memo_cells c.loop-memo_cell.memo_cell-index c.forget.new.self) ≡ map (λ s. forgotten (memo_cell_tree s)) (take k c.args.memo_cells.now) ++ map memo_cell_tree (drop k c.args.memo_cells.now)) next
    (forget_step memo_cell_tree (λ s. forgotten (memo_cell_tree s)) c.loop-memo_cell.memo_cells c.args.memo_cells.now c.loop-memo_cell.memo_cell-index c.memo_cell-item.result c.forget.new.self within c.loop-memo_cell.invariant c.memo_cell-item.is (λ y e. c.forget.ensures ∙ ap (λ s. forgotten (memo_cell_tree s)) (sym c.memo_cell-item.is) ∙ ap forgotten e))
