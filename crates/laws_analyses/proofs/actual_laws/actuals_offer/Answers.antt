use Rattle.laws_analyses.proofs.Calls.OfferLaws.{offer_actuals}
use Rattle.laws_analyses.proofs.actual_laws.actuals_offer.Goals as goal

pub returns : goal.returns
returns c = offer_actuals
