use Rattle.f77_meaning.proofs.ModuleLaws.{offsets_fit}
use Rattle.f77_meaning.proofs.laws.offsets_fit.Goals as goal

pub returns : goal.returns
returns c = offsets_fit
