use Rattle.std.proofs.Common.{set, subst}
use Rattle.std.specs.Prelude.{IfOk}
use Rattle.pipsmake_meaning.specs.MemoCells.{Sees}
use Rattle.result_store.specs.Rows.{memo_cell_tree, memo_cell_at}
use Rattle.result_store.specs.Values.{value_tree, item_of}
use Rattle.result_store.proofs.Outcomes.{on_err}
use Rattle.result_store.proofs.RowLaws.{tree, memo_cell_fits, row_changes, memo_cell_before, memo_cell_after, row_unchanged}
use Rattle.result_store.proofs.row.Row.see.Goals as goal

pub see-requires-in-Result-clause-memo_cell : goal.see-requires-in-Result-clause-memo_cell
see-requires-in-Result-clause-memo_cell c =
    memo_cell_fits c.args.self.now.results.items c.in-Result.kind c.number.result c.index_mut-memo_cell.result.now c.number.ensures c.requires.row.kinds c.index_mut-memo_cell.ensures.value c.requires.row.results

pub returns-in-Result-clause-changes : goal.returns-in-Result-clause-changes
returns-in-Result-clause-changes c =
    row_changes c.args.self.now.name (memo_cell_tree c.args.self.now.text) c.args.self.now.results.items c.args.item c.in-Result.kind c.number.result c.index_mut-memo_cell.result.now c.see-in-Result.new.self c.in-Result.is c.number.ensures c.index_mut-memo_cell.ensures.value c.requires.row c.see-in-Result.ensures.fits

pub returns-in-Result-clause-ok : goal.returns-in-Result-clause-ok
returns-in-Result-clause-ok c =
    let before = memo_cell_before c.args.self.now.name (memo_cell_tree c.args.self.now.text) c.args.self.now.results.items c.args.item c.in-Result.kind c.number.result c.index_mut-memo_cell.result.now c.see-in-Result.new.self c.in-Result.is c.number.ensures c.index_mut-memo_cell.ensures.value c.requires.row in
    let after = memo_cell_after c.args.self.now.name (memo_cell_tree c.args.self.now.text) c.args.self.now.results.items c.args.item c.in-Result.kind c.number.result c.index_mut-memo_cell.result.now c.see-in-Result.new.self c.in-Result.is c.number.ensures c.index_mut-memo_cell.ensures.value c.requires.row in
    subst (λ a. IfOk c.see-in-Result.result (λ n. Sees a (value_tree c.args.value) n (memo_cell_at (tree c.args.self.now.name (memo_cell_tree c.args.self.now.text) (set c.args.self.now.results.items c.number.result c.see-in-Result.new.self)) (item_of c.args.item)))) before
    (subst (λ b. IfOk c.see-in-Result.result (λ n. Sees (memo_cell_tree c.index_mut-memo_cell.result.now) (value_tree c.args.value) n b)) after c.see-in-Result.ensures.ok)

pub returns-in-Result-clause-err : goal.returns-in-Result-clause-err
returns-in-Result-clause-err c =
    on_err c.see-in-Result.result (row_unchanged c.args.self.now.name (memo_cell_tree c.args.self.now.text) c.args.self.now.results.items c.args.item c.in-Result.kind c.number.result c.index_mut-memo_cell.result.now c.see-in-Result.new.self c.in-Result.is c.number.ensures c.index_mut-memo_cell.ensures.value c.requires.row) c.see-in-Result.ensures.err
