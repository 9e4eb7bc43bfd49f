-- What is true of each program that is written, alone or in a session.
use Rattle.std.specs.Prelude.{◌≡◌, ℕ, List, ◌∷◌, ◌++◌, Option, Some, None, Ok}
use Rattle.pipsmake_base.specs.pipsmake_rules.declared.key.Key.{Key}
use Rattle.pipsmake_base.specs.session_texts.declared.command.Command.{Command}
use Rattle.pipsmake_base.specs.session_texts.declared.command.Command.TheVariants.{Print}
use Rattle.pipsmake_base.specs.session_texts.Answers.{made_lines, text_with_count}
use Rattle.pipsmake_base.specs.session_texts.Commands.{commands_of}
use Rattle.pipsmake_base.specs.result_lines.declared.show.Show.{Show}
use Rattle.laws_programs.specs.roundtrip_programs.Pieces.Joined.{joined_texts}
use Rattle.pipsmake_base.specs.pipsmake_meaning.Texts.{ModuleText}
use Rattle.pipsmake_base.specs.laws_database.ProgramTexts.{texts_of}
use Rattle.pipsmake_base.specs.pipsmake_db.declared.refusal.DbRefusal.{DbRefusal}
use Rattle.pipsmake_base.specs.pipsmake_db.Refusals.{link_refusal}
use Rattle.pipsmake_base.specs.pipsmake_db.State.{State}
use Rattle.pipsmake_base.specs.pipsmake_db.Answers.{refusal_line}
use Rattle.pipsmake_base.specs.pipsmake_db.Scripts.{AnswersAll}
use Rattle.pips_top.specs.Bounded.{BoundsWanted}
use Rattle.pips_top.specs.ClaimsRead.{ReadsClaims}
use Rattle.pips_top.specs.Claimed.{ClaimsHold, SaysAll, LinesMean}
use Rattle.pips_top.specs.MarkedText.{ReadsMarked, RunsInterleaved}
use Rattle.pips_top.specs.Program.{ProgramTree}
use Rattle.pips_top.specs.ReadBack.{ReadsBack}
use Rattle.pips_top.specs.Reading.{reading}
use Rattle.pips_top.specs.Shown.{alone}
use Rattle.pips_top.specs.Written.{written}
use Rattle.pips_top.specs.declared.wanted.Wanted.{Wanted}

-- what is written of a program with what is said of it: this is true of every run, of references too where lines on them are wanted, and leaves nothing out, each line is read as just what is said, the text is read again as the same program,
-- with just these claims in its bytes, each before its part,
-- and with its directives as that program with just the parallel loops marked that were found, which does as the program does, these loops interleaved anyhow
pub record IsSound (show : Wanted) (p : ProgramTree) : Type 0 where
  pub claims : ClaimsHold p
  pub bounds : BoundsWanted show.bounds p
  pub whole : SaysAll p
  pub lines : LinesMean show p
  pub back : ReadsBack show p
  pub claimed : ReadsClaims show p
  pub marked : ReadsMarked show p
  pub interleaved : RunsInterleaved show p marked

-- ---- in a session

-- the texts make one program when they are joined, and behind what says which results were made stands that program as it is written, which is sound
pub record PrintsProgram (show : Show) (ts : List ModuleText) (lines : List ℕ) : Type 0 where
  pub program : ProgramTree
  pub as_program : reading (joined_texts (texts_of ts)) ≡ Ok program
  pub sound : IsSound (alone show) program
  pub now : List Key
  pub is : lines ≡ made_lines now ++ text_with_count (written (alone show) program)

-- or they do not link, and one line says so
abbrev pub PrintBy : Show → List ModuleText → Option DbRefusal → List ℕ → Type 0
PrintBy show ts None lines = PrintsProgram show ts lines
PrintBy show ts (Some refusal) lines = lines ≡ refusal_line refusal

-- the answer to a `print`, behind the answers to the commands before it and before those to the commands after it
pub record PrintAmong (show : Show) (s : State) (before after : List Command) (out : List ℕ) : Type 0 where
  pub earlier : List ℕ
  pub lines : List ℕ
  pub later : List ℕ
  pub is : out ≡ earlier ++ (lines ++ later)
  pub here : State
  pub next : State
  pub end : State
  pub until : AnswersAll show s before earlier here
  pub from : AnswersAll show next after later end
  pub printed : PrintBy show here.texts (link_refusal here.texts) lines

-- so is each `print` of a script answered, from a state
abbrev pub PrintsSoundly : Show → State → List ℕ → List ℕ → Type 0
PrintsSoundly show s script out = (before after : List Command) → commands_of script ≡ before ++ Print ∷ after → PrintAmong show s before after out
