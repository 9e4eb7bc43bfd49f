-- A small session, and its answer: no module is read, and all other commands are refused.
use Rattle.std.specs.Prelude.{ℕ, List, codes}
use Rattle.result_lines.specs.declared.show.Show.{Show}
use Rattle.pipsmake_db.specs.State.{first_state}
use Rattle.pipsmake_db.specs.Scripts.{AnswersScript}

abbrev pub small_script : List ℕ
small_script = codes "source 0\ndrop q\n\n frob\nMake mark p\nshow parsed *\nprint\nsource 2\n      END\n"

abbrev pub small_answer : List ℕ
small_answer = codes "source\nrefused 71 NoSuchName\nrefused 80 BadCommand\nrefused 70 NoSuchKind\nrefused 71 NoSuchName\nrefused 50 NoMain\nrefused 81 ShortSource\n"

abbrev pub SmallSession : Type 0
SmallSession = (show : Show) → AnswersScript show first_state small_script small_answer first_state
