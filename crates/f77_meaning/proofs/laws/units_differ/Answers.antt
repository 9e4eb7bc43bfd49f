use Rattle.f77_meaning.proofs.UnitLaws.{units_differ}
use Rattle.f77_meaning.proofs.laws.units_differ.Goals as goal

pub returns : goal.returns
returns c = units_differ
