use Rattle.pipsmake_base.proofs.CurrentAnswers.{answers_stay_current}
use Rattle.pipsmake_base.proofs.laws.answers_stay_current.Goals as goal

pub returns : goal.returns
returns c = answers_stay_current
