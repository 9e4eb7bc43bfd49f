use Rattle.region_sets.proofs.LiveLaws.{none_is_refuted}
use Rattle.region_sets.proofs.live.none_is_refuted.Goals as goal

pub returns : goal.returns
returns c = none_is_refuted
