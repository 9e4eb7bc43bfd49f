use Rattle.laws_programs.proofs.Storage.BindLaws.{places_are_bound}
use Rattle.laws_programs.proofs.calls.places_are_bound.Goals as goal

pub returns : goal.returns
returns c = places_are_bound
