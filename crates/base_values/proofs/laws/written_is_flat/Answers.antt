use Rattle.base_values.proofs.DepthLaws as lemma
use Rattle.base_values.proofs.laws.written_is_flat.Goals as goal

pub returns : goal.returns
returns c = lemma.written_is_flat
