-- What follows from the definitions of answers.
use Rattle.std.specs.Prelude.{◌≡◌, ℕ, List, ◌∷◌, ◌++◌, Option, Some, None, Ok}
use Rattle.call_graph.specs.declared.graph.Graph.{Graph}
use Rattle.session_texts.specs.pipsmake_rules.declared.key.Key.{Key}
use Rattle.session_texts.specs.declared.command.Command.{Command}
use Rattle.session_texts.specs.declared.command.Command.TheVariants as command
use Rattle.session_texts.specs.Answers.{made_lines, text_with_count}
use Rattle.result_lines.specs.declared.show.Show.{Show}
use Rattle.session_texts.specs.roundtrip_programs.Programs.{IsProgram}
use Rattle.session_texts.specs.roundtrip_programs.Pieces.Joined.{joined_texts}
use Rattle.session_texts.specs.pipsmake_meaning.Texts.{AreModules, tables_in, links_in}
use Rattle.laws_database.specs.ProgramTexts.{program_text, texts_of, joined_modules}
use Rattle.pipsmake_db.specs.declared.refusal.DbRefusal.{DbRefusal}
use Rattle.pipsmake_db.specs.Refusals.{link_refusal}
use Rattle.pipsmake_db.specs.State.{State}
use Rattle.pipsmake_db.specs.Answers.{refusal_line}
use Rattle.pipsmake_db.specs.Scripts.{AnswersAll}

-- commands have one answer, and lead to one state
abbrev pub AnswersAreUnique : Type 0
AnswersAreUnique =
    (show : Show) (s : State) (commands : List Command) (out other : List ℕ) (t u : State) → AnswersAll show s commands out t → AnswersAll show s commands other u → (out ≡ other) × (t ≡ u)

-- texts stay modules of their names, each alone
abbrev pub TextsStayModules : Type 0
TextsStayModules = (show : Show) (s : State) (commands : List Command) (out : List ℕ) (t : State) → AnswersAll show s commands out t → AreModules s.texts → AreModules t.texts

-- ---- what is printed

-- the texts make one program when they are joined, and what follows `text` is that program as it is written, with what `show` adds to it
pub record PrintsTheProgram (show : Show) (s : State) (lines : List ℕ) : Type 0 where
  pub graph : Graph
  pub linked : links_in s.texts ≡ Ok graph
  pub program : IsProgram (joined_texts (texts_of s.texts)) (joined_modules s.texts) (tables_in s.texts) graph
  pub now : List Key
  pub written : lines ≡ made_lines now ++ text_with_count (program_text show (joined_modules s.texts) (tables_in s.texts) graph)

-- or the texts do not link, and one line says so
abbrev pub PrintBy : Show → State → Option DbRefusal → List ℕ → Type 0
PrintBy show s None lines = PrintsTheProgram show s lines
PrintBy show s (Some r) lines = lines ≡ refusal_line r

-- the answer to a `print` among commands, between the answers to those before it and after it
pub record PrintAmong (show : Show) (s t : State) (before after : List Command) (out : List ℕ) : Type 0 where
  pub earlier : List ℕ
  pub lines : List ℕ
  pub later : List ℕ
  pub here : State
  pub next : State
  pub is : out ≡ earlier ++ (lines ++ later)
  pub until : AnswersAll show s before earlier here
  pub from : AnswersAll show next after later t
  pub modules : AreModules here.texts
  pub printed : PrintBy show here (link_refusal here.texts) lines

abbrev pub EachPrintIsTheProgram : Type 0
EachPrintIsTheProgram =
    (show : Show) (s t : State) (before after : List Command) (out : List ℕ) → AnswersAll show s (before ++ command.Print ∷ after) out t → AreModules s.texts → PrintAmong show s t before after out
