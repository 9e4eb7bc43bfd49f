use Rattle.region_translation.proofs.ElementLaws.{same_elements_hold, scalar_link_holds, element_link_holds}
use Rattle.region_translation.proofs.LinkLaws.{array_link_holds, rest_link_holds, block_link_holds}
use Rattle.region_translation.proofs.laws.links_hold.Goals as goal

pub returns-clause-same : goal.returns-clause-same
returns-clause-same c = same_elements_hold

pub returns-clause-scalar : goal.returns-clause-scalar
returns-clause-scalar c = scalar_link_holds

pub returns-clause-element : goal.returns-clause-element
returns-clause-element c = element_link_holds

pub returns-clause-array : goal.returns-clause-array
returns-clause-array c = array_link_holds

pub returns-clause-rest : goal.returns-clause-rest
returns-clause-rest c = rest_link_holds

pub returns-clause-block : goal.returns-clause-block
returns-clause-block c = block_link_holds
