use Rattle.result_store.proofs.MemoCellLaws.{got_fits}
use Rattle.result_store.proofs.memo_cell.MemoCell.value.Goals as goal

pub returns-in-Some-clause-fits : goal.returns-in-Some-clause-fits
returns-in-Some-clause-fits c = got_fits c.args.self.now.values c.in-Some.kept.stamp c.get.result c.get.ensures c.requires
