use Rattle.laws_programs.proofs.Layouts.SharingLaws.{sharing_has_a_chain}
use Rattle.laws_programs.proofs.layout_laws.sharing_has_a_chain.Goals as goal

pub returns : goal.returns
returns c = sharing_has_a_chain
