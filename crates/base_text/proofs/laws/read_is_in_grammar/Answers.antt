use Rattle.base_text.proofs.Fits as lemma
use Rattle.base_text.proofs.laws.read_is_in_grammar.Goals as goal

pub returns : goal.returns
returns c = lemma.read_is_in_grammar
