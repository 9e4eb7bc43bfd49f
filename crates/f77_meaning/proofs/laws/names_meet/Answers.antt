use Rattle.f77_meaning.proofs.ModuleLaws.{names_meet}
use Rattle.f77_meaning.proofs.laws.names_meet.Goals as goal

pub returns : goal.returns
returns c = names_meet
