use Rattle.f77_meaning.proofs.InitialLaws.{others_begin_unset}
use Rattle.f77_meaning.proofs.laws.others_begin_unset.Goals as goal

pub returns : goal.returns
returns c = others_begin_unset
