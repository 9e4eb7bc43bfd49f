-- Sessions keep fresh results up to date.
use Rattle.std.specs.Prelude.{ℕ, List}
use Rattle.pipsmake_db.specs.pipsmake_rules.declared.key.Key.{Key}
use Rattle.call_graph.specs.CallsIn.{Each}
use Rattle.pipsmake_db.specs.result_lines.declared.show.Show.{Show}
use Rattle.base_text.specs.declared.base.Base.{Base}
use Rattle.pipsmake_db.specs.pipsmake_meaning.Session.{UpToDate, MadeOf, made_now}
use Rattle.pipsmake_db.specs.laws_database.Laws.{walk_in}
use Rattle.pipsmake_db.specs.State.{State, first_state, after_make}
use Rattle.pipsmake_db.specs.Answers.{MakesPrinted}
use Rattle.pipsmake_db.specs.Scripts.{AnswersScript}
use Rattle.pipsmake_base.specs.Saved.{loaded_state}

-- each fresh result is up to date
abbrev pub FreshIsCurrent : State → Type 0
FreshIsCurrent s = Each (UpToDate s.made s.texts) s.fresh

-- so it is where a session begins without texts
abbrev pub FirstIsCurrent : Type 0
FirstIsCurrent = FreshIsCurrent first_state

-- and where it goes on from a base
abbrev pub LoadedIsCurrent : Type 0
LoadedIsCurrent = (b : Base) → FreshIsCurrent (loaded_state b)

-- where a result was made, with all that it needs
abbrev pub MakingStaysCurrent : Type 0
MakingStaysCurrent = (s : State) (k : Key) (now : List Key) → FreshIsCurrent s → MadeOf s.made s.texts (walk_in s.texts k) now → FreshIsCurrent (after_make s k now)

-- where some results were made before memory was wanting
abbrev pub LosingStaysCurrent : Type 0
LosingStaysCurrent = (s : State) (now : List Key) → FreshIsCurrent s → FreshIsCurrent (record s { made = made_now s.made s.texts now })

-- where written texts were made
abbrev pub PrintingStaysCurrent : Type 0
PrintingStaysCurrent = (s t : State) (xs : List (List ℕ)) (now : List Key) → MakesPrinted s xs now t → FreshIsCurrent s → FreshIsCurrent t

-- after the commands of a script
abbrev pub AnswersStayCurrent : Type 0
AnswersStayCurrent = (show : Show) (s t : State) (script out : List ℕ) → AnswersScript show s script out t → FreshIsCurrent s → FreshIsCurrent t
