use Rattle.laws_analyses.proofs.Calls.AllLaws.{entry_rules_hold}
use Rattle.laws_analyses.proofs.rule_laws.entry_rules_hold.Goals as goal

pub returns : goal.returns
returns c = entry_rules_hold
