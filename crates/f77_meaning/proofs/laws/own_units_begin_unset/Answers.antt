use Rattle.f77_meaning.proofs.InitialLaws.{own_units_begin_unset}
use Rattle.f77_meaning.proofs.laws.own_units_begin_unset.Goals as goal

pub returns : goal.returns
returns c = own_units_begin_unset
