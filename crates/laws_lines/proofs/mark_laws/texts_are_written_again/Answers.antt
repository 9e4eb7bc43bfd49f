use Rattle.laws_lines.proofs.Marks.WrittenAgain.{texts_are_written_again}
use Rattle.laws_lines.proofs.mark_laws.texts_are_written_again.Goals as goal

pub returns : goal.returns
returns c = texts_are_written_again
