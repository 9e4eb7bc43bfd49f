use Rattle.base_text.proofs.Back as lemma
use Rattle.base_text.proofs.laws.written_is_read.Goals as goal

pub returns : goal.returns
returns c = lemma.written_is_read
