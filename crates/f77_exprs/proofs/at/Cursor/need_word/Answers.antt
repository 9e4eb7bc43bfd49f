-- A word that was taken leaves no more than there was.
use Rattle.std.proofs.Common.{sym}
use Rattle.f77_exprs.specs.State.{state}
use Rattle.f77_exprs.proofs.Shorter.{take_word_shorter}
use Rattle.f77_exprs.proofs.at.Cursor.need_word.Goals as goal

pub returns-in-Some-clause-shorter : goal.returns-in-Some-clause-shorter
returns-in-Some-clause-shorter c = take_word_shorter c.args.word.now (state c.args.self) (state c.in-Some.rest) (sym c.in-Some.ensures)
