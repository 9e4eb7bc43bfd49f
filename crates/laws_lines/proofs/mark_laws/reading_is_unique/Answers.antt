use Rattle.laws_lines.proofs.Marks.Unique.{reading_is_unique}
use Rattle.laws_lines.proofs.mark_laws.reading_is_unique.Goals as goal

pub returns : goal.returns
returns c = reading_is_unique
