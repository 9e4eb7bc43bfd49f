use Rattle.laws_interleavings.proofs.Picks.{as_in_order}
use Rattle.laws_interleavings.proofs.laws.interleavings_agree.Goals as goal

pub returns : goal.returns
returns c = λ p n s does runs apart picks. as_in_order p n s does runs apart picks
