-- What calls do: what is appended is the answer, and the database is in the state that follows.
use Rattle.std.specs.Prelude.{◌≡◌, ℕ, List, ◌++◌, Some}
use Rattle.session_texts.specs.pipsmake_rules.declared.kind.Kind.TheVariants.{Printed}
use Rattle.session_texts.specs.pipsmake_rules.declared.key.Key.{Key}
use Rattle.session_texts.specs.declared.command.Command.{Command}
use Rattle.session_texts.specs.Answers.{made_lines}
use Rattle.session_texts.specs.Commands.{commands_of}
use Rattle.result_lines.specs.declared.show.Show.{Show}
use Rattle.session_texts.specs.pipsmake_meaning.Texts.{names_in}
use Rattle.call_graph.specs.CallsIn.{Each}
use Rattle.laws_database.specs.ProgramTexts.{text_named, texts_named}
use Rattle.laws_database.specs.Stands.{Valuation}
use Rattle.laws_database.specs.Unverified.{IsStored}
use Rattle.pipsmake_db.specs.declared.db.Db.{Db}
use Rattle.pipsmake_db.specs.State.{State, IsIn, texts_of}
use Rattle.pipsmake_db.specs.Calls.{key, Rests}
use Rattle.pipsmake_db.specs.Shown.{texts_from}
use Rattle.pipsmake_db.specs.declared.print.Prints.{Prints}
use Rattle.pipsmake_db.specs.Answers.{AnswersTo, MakesIn, MakesPrinted}
use Rattle.pipsmake_db.specs.Scripts.{AnswersScript}
use Rattle.pipsmake_db.specs.Outlines.{outline_of, after_printed, OutlinesTo, OutlinesScript}
use Rattle.pipsmake_db.specs.AnswerTexts.{texts_after, texts_at_end}

-- these lines are the answer to a command
pub record AnswersFrom (show : Show) (command : Command) (s : State) (old new : List ℕ) (d : Db) : Type 0 where
  pub lines : List ℕ
  pub next : State
  pub answers : AnswersTo show s command lines next
  pub is_in : IsIn d next
  pub written : new ≡ old ++ lines

-- whatever is kept of results, refusals, texts and fresh results are as a session has them
pub record AnswersAnyway (command : Command) (d e : Db) (old new : List ℕ) : Type 0 where
  pub lines : List ℕ
  pub outlines : OutlinesTo (outline_of d) command lines (outline_of e)
  pub written : new ≡ old ++ lines

-- the texts are those after the command, and from whatever state the database was in it is answered
pub record Answers (show : Show) (command : Command) (d e : Db) (old new : List ℕ) : Type 0 where
  pub texts : texts_of e ≡ texts_after (texts_of d) command
  pub anyway : AnswersAnyway command d e old new
  pub from : (s : State) → IsIn d s → AnswersFrom show command s old new e

-- this is the answer to a script
pub record AnswersWholeFrom (show : Show) (script : List ℕ) (s : State) (out : List ℕ) (d : Db) : Type 0 where
  pub next : State
  pub answers : AnswersScript show s script out next
  pub is_in : IsIn d next

pub record AnswersWhole (show : Show) (script : List ℕ) (d e : Db) (out : List ℕ) : Type 0 where
  pub texts : texts_of e ≡ texts_at_end (texts_of d) (commands_of script)
  pub anyway : OutlinesScript (outline_of d) script out (outline_of e)
  pub from : (s : State) → IsIn d s → AnswersWholeFrom show script s out e

-- these lines say what was made, and these are the written texts of all modules
pub record PrintsAllFrom (show : Show) (s : State) (prints : Prints) (d : Db) : Type 0 where
  pub now : List Key
  pub next : State
  pub makes : MakesPrinted s (names_in s.texts) now next
  pub is_in : IsIn d next
  pub made : prints.made ≡ made_lines now
  pub text : texts_named show s.texts (names_in s.texts) ≡ Some prints.text

-- where the database rests on stored results, whatever they are, none of them is made, and the texts are theirs
pub record PrintsStored (show : Show) (stored : Valuation) (prints : Prints) (e : Db) : Type 0 where
  pub rests : Rests e stored
  pub now : List Key
  pub none_stored : Each (λ (k : Key). IsStored k.kind → ⊥) now
  pub made : prints.made ≡ made_lines now
  pub text : texts_from (texts_of e) stored show (names_in (texts_of e)) ≡ Some prints.text

-- lines that say what was made, whatever is kept of results; and the written texts of all modules are fresh, with what they need
pub record PrintsAnyway (d e : Db) (prints : Prints) : Type 0 where
  pub now : List Key
  pub made : prints.made ≡ made_lines now
  pub outline : outline_of e ≡ after_printed (outline_of d) (names_in (texts_of d))

pub record PrintsAll (show : Show) (d e : Db) (prints : Prints) : Type 0 where
  pub texts : texts_of e ≡ texts_of d
  pub anyway : PrintsAnyway d e prints
  pub rests : (stored : Valuation) → Rests d stored → PrintsStored show stored prints e
  pub from : (s : State) → IsIn d s → PrintsAllFrom show s prints e

-- one module more: what was made of it, and its written text
pub record PrintsOneFrom (show : Show) (x : List ℕ) (s : State) (old new : Prints) (d : Db) : Type 0 where
  pub now : List Key
  pub text : List ℕ
  pub next : State
  pub makes : MakesIn s (key Printed x) now next
  pub is_in : IsIn d next
  pub is : text_named show s.texts x ≡ Some text
  pub made : new.made ≡ old.made ++ made_lines now
  pub written : new.text ≡ old.text ++ text
