use Rattle.session_texts.proofs.Puts.{text_of_put}
use Rattle.session_texts.proofs.Replaced.{text_of_replaced}
use Rattle.session_texts.proofs.Removed.{text_of_without}
use Rattle.session_texts.proofs.laws.texts_after_changes.Goals as goal

pub returns : goal.returns
returns c = record { put = text_of_put; replaced = text_of_replaced; without = text_of_without }
