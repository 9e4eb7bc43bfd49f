use Rattle.session_texts.proofs.Replaced.{replaced_none}
use Rattle.session_texts.proofs.laws.replacing_none.Goals as goal

pub returns : goal.returns
returns c = replaced_none
