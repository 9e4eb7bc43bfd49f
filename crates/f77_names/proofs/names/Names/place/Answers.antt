use Rattle.f77_names.proofs.NamesLaws.{place-within}
use Rattle.f77_names.proofs.names.Names.place.Goals as goal

pub returns-clause-within : goal.returns-clause-within
returns-clause-within c = place-within c.look_up.result c.args.name.now c.args.self.now c.look_up.ensures
