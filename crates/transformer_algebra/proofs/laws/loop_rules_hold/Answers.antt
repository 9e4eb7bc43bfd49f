use Rattle.transformer_algebra.proofs.AllLaws.{loop_rules_hold}
use Rattle.transformer_algebra.proofs.laws.loop_rules_hold.Goals as goal

pub returns : goal.returns
returns c = loop_rules_hold
