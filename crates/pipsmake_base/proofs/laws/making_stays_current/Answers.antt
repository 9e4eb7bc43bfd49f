use Rattle.pipsmake_base.proofs.Current.{making_stays_current, losing_stays_current, printing_stays_current}
use Rattle.pipsmake_base.proofs.laws.making_stays_current.Goals as goal

pub returns : goal.returns
returns c = record { made = making_stays_current; lost = losing_stays_current; printed = printing_stays_current }
