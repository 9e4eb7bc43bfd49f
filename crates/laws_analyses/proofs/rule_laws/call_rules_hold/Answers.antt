use Rattle.laws_analyses.proofs.Calls.AllLaws.{call_rules_hold}
use Rattle.laws_analyses.proofs.rule_laws.call_rules_hold.Goals as goal

pub returns : goal.returns
returns c = call_rules_hold
