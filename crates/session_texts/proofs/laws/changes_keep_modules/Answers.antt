use Rattle.session_texts.proofs.Puts.{put_keeps}
use Rattle.session_texts.proofs.Replaced.{replaced_keeps}
use Rattle.session_texts.proofs.Removed.{without_keeps}
use Rattle.session_texts.proofs.laws.changes_keep_modules.Goals as goal

pub returns : goal.returns
returns c = record { put = put_keeps; replaced = replaced_keeps; without = without_keeps }
