use Rattle.std.proofs.Common.{map, sym, ap, ◌∙◌}
use Rattle.std.specs.List.{AllByRecursion}
use Rattle.result_store.specs.Fits.{MemoCellFits}
use Rattle.result_store.specs.Rows.{memo_cell_tree}
use Rattle.result_store.specs.Seen.{kept_at}
use Rattle.result_store.specs.Values.{stamped_tree}
use Rattle.result_store.proofs.RowLaws.{memo_cell_fits, row_changes, memo_cell_before, memo_cell_after, fits_kept_at}
use Rattle.result_store.proofs.row.Row.keep_seen.Goals as goal

pub returns-in-Result-clause-changes : goal.returns-in-Result-clause-changes
returns-in-Result-clause-changes c =
    row_changes c.args.self.now.name (memo_cell_tree c.args.self.now.text) c.args.self.now.results.items c.args.item c.in-Result.kind c.number.result c.index_mut-memo_cell.result.now c.keep_seen-in-Result.new.self c.in-Result.is c.number.ensures c.index_mut-memo_cell.ensures.value c.requires
    (fits_kept_at (memo_cell_tree c.index_mut-memo_cell.result.now) (memo_cell_tree c.keep_seen-in-Result.new.self) c.args.stamp (map stamped_tree c.args.needs) c.keep_seen-in-Result.ensures
    (memo_cell_fits c.args.self.now.results.items c.in-Result.kind c.number.result c.index_mut-memo_cell.result.now c.number.ensures c.requires.kinds c.index_mut-memo_cell.ensures.value c.requires.results))

pub returns-in-Result-clause-kept : goal.returns-in-Result-clause-kept
returns-in-Result-clause-kept c =
    let before = memo_cell_before c.args.self.now.name (memo_cell_tree c.args.self.now.text) c.args.self.now.results.items c.args.item c.in-Result.kind c.number.result c.index_mut-memo_cell.result.now c.keep_seen-in-Result.new.self c.in-Result.is c.number.ensures c.index_mut-memo_cell.ensures.value c.requires in
    let after = memo_cell_after c.args.self.now.name (memo_cell_tree c.args.self.now.text) c.args.self.now.results.items c.args.item c.in-Result.kind c.number.result c.index_mut-memo_cell.result.now c.keep_seen-in-Result.new.self c.in-Result.is c.number.ensures c.index_mut-memo_cell.ensures.value c.requires in
    sym after ∙ c.keep_seen-in-Result.ensures ∙ ap (λ s. kept_at s c.args.stamp (map stamped_tree c.args.needs)) before
