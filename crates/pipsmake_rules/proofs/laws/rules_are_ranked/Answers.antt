use Rattle.pipsmake_rules.proofs.TableLaws.{ranked}
use Rattle.pipsmake_rules.proofs.laws.rules_are_ranked.Goals as goal

pub returns : goal.returns
returns c = ranked
