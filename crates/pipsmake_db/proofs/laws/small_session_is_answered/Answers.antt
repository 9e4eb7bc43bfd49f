use Rattle.pipsmake_db.proofs.SmallSession.{small_session}
use Rattle.pipsmake_db.proofs.laws.small_session_is_answered.Goals as goal

pub returns : goal.returns
returns c = small_session
