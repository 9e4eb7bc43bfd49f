use Rattle.base_values.proofs.ValuesBack as lemma
use Rattle.base_values.proofs.laws.written_is_read.Goals as goal

pub returns : goal.returns
returns c = lemma.written_is_read
