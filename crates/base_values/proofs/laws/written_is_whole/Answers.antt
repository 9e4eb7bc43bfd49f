use Rattle.base_values.proofs.TakenLaws as lemma
use Rattle.base_values.proofs.laws.written_is_whole.Goals as goal

pub returns : goal.returns
returns c = lemma.written_is_whole
