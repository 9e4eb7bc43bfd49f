use Rattle.f77_meaning.proofs.LinkedLaws.{linked_calls_fit}
use Rattle.f77_meaning.proofs.laws.linked_calls_fit.Goals as goal

pub returns : goal.returns
returns c = linked_calls_fit
