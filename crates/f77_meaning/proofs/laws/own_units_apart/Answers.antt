use Rattle.f77_meaning.proofs.ModuleLaws.{own_units_apart}
use Rattle.f77_meaning.proofs.laws.own_units_apart.Goals as goal

pub returns : goal.returns
returns c = own_units_apart
