use Rattle.result_store.proofs.StoreLaws.{within_rows}
use Rattle.result_store.proofs.store.Store.place.Goals as goal

pub returns-clause-within : goal.returns-clause-within
returns-clause-within c = within_rows c.look_up.result c.args.name.now c.args.self.now c.look_up.ensures
