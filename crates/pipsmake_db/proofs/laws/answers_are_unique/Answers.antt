use Rattle.pipsmake_db.proofs.Once.{all_once}
use Rattle.pipsmake_db.proofs.laws.answers_are_unique.Goals as goal

pub returns : goal.returns
returns c = all_once
