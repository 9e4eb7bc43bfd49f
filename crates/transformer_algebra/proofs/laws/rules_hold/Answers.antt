use Rattle.transformer_algebra.proofs.AllLaws.{rules_hold}
use Rattle.transformer_algebra.proofs.laws.rules_hold.Goals as goal

pub returns : goal.returns
returns c = rules_hold
