use Rattle.f77_meaning.proofs.LinkedLaws.{actuals_suit}
use Rattle.f77_meaning.proofs.laws.actuals_suit.Goals as goal

pub returns : goal.returns
returns c = actuals_suit
