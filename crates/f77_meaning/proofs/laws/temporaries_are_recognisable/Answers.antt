use Rattle.f77_meaning.proofs.UnitLaws.{temporaries_are_recognisable}
use Rattle.f77_meaning.proofs.laws.temporaries_are_recognisable.Goals as goal

pub returns : goal.returns
returns c = temporaries_are_recognisable
