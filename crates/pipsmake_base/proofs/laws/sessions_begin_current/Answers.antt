use Rattle.pipsmake_base.proofs.Current.{first_is_current, loaded_is_current}
use Rattle.pipsmake_base.proofs.laws.sessions_begin_current.Goals as goal

pub returns : goal.returns
returns c = record { first = first_is_current; loaded = loaded_is_current }
