use Rattle.region_translation.proofs.CalleeLinkLaws.{same_link_holds, dummy_link_holds}
use Rattle.region_translation.proofs.callee_laws.links_hold.Goals as goal

pub returns-clause-same : goal.returns-clause-same
returns-clause-same c = same_link_holds

pub returns-clause-dummy : goal.returns-clause-dummy
returns-clause-dummy c = dummy_link_holds
