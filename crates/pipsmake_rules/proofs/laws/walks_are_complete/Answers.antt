use Rattle.pipsmake_rules.proofs.WalkLaws.{complete}
use Rattle.pipsmake_rules.proofs.laws.walks_are_complete.Goals as goal

pub returns : goal.returns
returns c = complete
