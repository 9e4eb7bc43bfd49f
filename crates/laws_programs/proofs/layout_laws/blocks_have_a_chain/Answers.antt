use Rattle.laws_programs.proofs.Layouts.BlockChains.{blocks_have_a_chain}
use Rattle.laws_programs.proofs.layout_laws.blocks_have_a_chain.Goals as goal

pub returns : goal.returns
returns c = blocks_have_a_chain
