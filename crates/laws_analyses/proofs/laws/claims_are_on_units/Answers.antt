use Rattle.laws_analyses.proofs.Regions.ClaimLaws.{lies_claimed, sharp_claimed}
use Rattle.laws_analyses.proofs.laws.claims_are_on_units.Goals as goal

pub returns-clause-sound : goal.returns-clause-sound
returns-clause-sound c = lies_claimed

pub returns-clause-exact : goal.returns-clause-exact
returns-clause-exact c = sharp_claimed
