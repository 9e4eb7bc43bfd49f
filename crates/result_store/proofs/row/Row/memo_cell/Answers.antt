use Rattle.result_store.proofs.RowLaws.{memo_cell_fits}
use Rattle.result_store.proofs.row.Row.memo_cell.Goals as goal

pub returns-in-Result-clause-fits : goal.returns-in-Result-clause-fits
returns-in-Result-clause-fits c =
    memo_cell_fits c.args.self.now.results.items c.in-Result.kind c.number.result c.index.result.now c.number.ensures c.requires.kinds c.index.ensures c.requires.results
