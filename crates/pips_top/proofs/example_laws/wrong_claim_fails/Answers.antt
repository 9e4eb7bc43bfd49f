use Rattle.pips_top.proofs.Claiming.{wrong_fails}
use Rattle.pips_top.proofs.example_laws.wrong_claim_fails.Goals as goal

pub returns : goal.returns
returns c = wrong_fails
