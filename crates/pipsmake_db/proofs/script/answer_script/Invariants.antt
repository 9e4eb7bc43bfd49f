use Rattle.std.proofs.Common.{◌≡◌, length}
use Rattle.session_texts.specs.Commands.{AreWithin, commands_of}
use Rattle.pipsmake_db.specs.State.{State, IsIn, texts_of}
use Rattle.pipsmake_db.specs.AnswerTexts.{texts_at_end}
use Rattle.pipsmake_db.specs.Outlines.{outline_of}
use Rattle.pipsmake_db.proofs.ScriptLemmas.{SoFar, SoFarAnyway}
use Rattle.pipsmake_db.proofs.script.answer_script.Given as goal

abbrev pub invariant-loop-rest : goal.invariant-loop-rest
invariant-loop-rest l = record {
  short : AreWithin (length l.script) l.rest;
  texts : texts_at_end (texts_of l.db) l.rest ≡ texts_at_end (texts_of l.fn.db) (commands_of l.script);
  anyway : SoFarAnyway (outline_of l.fn.db) (commands_of l.script) l.rest l.out l.db;
  so_far : (s : State) → IsIn l.fn.db s → SoFar l.show s (commands_of l.script) l.rest l.out l.db;
}

abbrev pub decreases-loop-rest : goal.decreases-loop-rest
decreases-loop-rest l = length l.rest
