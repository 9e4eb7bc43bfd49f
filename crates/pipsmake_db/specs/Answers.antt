-- What a session answers to a command, and the state that follows.
use Rattle.std.specs.Prelude.{◌≡◌, ℕ, List, [], ◌∷◌, ◌++◌, Option, Some, None, Ok}
use Rattle.session_texts.specs.pipsmake_rules.declared.kind.Kind.{Kind}
use Rattle.session_texts.specs.pipsmake_rules.declared.kind.Kind.TheVariants.{Printed}
use Rattle.session_texts.specs.pipsmake_rules.declared.key.Key.{Key}
use Rattle.session_texts.specs.pipsmake_rules.Kinds.{kind_with}
use Rattle.session_texts.specs.declared.command.Command.{Command}
use Rattle.session_texts.specs.declared.command.Command.TheVariants as command
use Rattle.session_texts.specs.declared.refusal.Refusal.TheVariants as refusal
use Rattle.session_texts.specs.Answers.{source_line, dropped_line, made_lines, ok_line, text_with_count}
use Rattle.session_texts.specs.Refusals.{refused_line}
use Rattle.result_lines.specs.declared.show.Show.{Show}
use Rattle.session_texts.specs.pipsmake_meaning.Texts.{ModuleText, names_in}
use Rattle.session_texts.specs.pipsmake_meaning.Session.{MadeOf}
use Rattle.laws_database.specs.Laws.{walk_in}
use Rattle.laws_database.specs.ProgramTexts.{texts_named}
use Rattle.session_texts.specs.Sources.{source_modules}
use Rattle.pipsmake_db.specs.declared.refusal.DbRefusal.{DbRefusal}
use Rattle.pipsmake_db.specs.declared.refusal.DbRefusal.TheVariants as db
use Rattle.pipsmake_db.specs.State.{State, after_source, after_drop, after_make}
use Rattle.pipsmake_db.specs.Refusals.{text_refusal, name_refusal, link_refusal, make_refusal, value_refusal}
use Rattle.pipsmake_db.specs.Shown.{text_for}
use Rattle.pipsmake_db.specs.Calls.{key}

-- ---- refusals

-- the line of a refusal by the database; want of memory has none
abbrev pub refusal_line : DbRefusal → List ℕ
refusal_line db.NoSuchKind = refused_line refusal.NoSuchKind
refusal_line db.NoSuchName = refused_line refusal.NoSuchName
refusal_line db.NotShown = refused_line refusal.NotShown
refusal_line (db.Source line code keyword) = refused_line (refusal.Source line code)
refusal_line (db.Link name line first code) = refused_line (refusal.Links name line code)
refusal_line db.Memory = []

-- this line, and nothing has changed
abbrev pub Says : List ℕ → State → List ℕ → State → Type 0
Says line s lines t = (lines ≡ line) × (t ≡ s)

-- a command that is refused says so, in one line
abbrev pub UnlessRefused : Option DbRefusal → State → (List ℕ → State → Type 0) → List ℕ → State → Type 0
UnlessRefused None s Answers lines t = Answers lines t
UnlessRefused (Some r) s Answers lines t = Says (refusal_line r) s lines t

-- ---- accepted commands

-- the modules that were read; each takes the place of the one of its name, or is added as the last
abbrev pub SourceAnswer : State → List ℕ → List ℕ → State → Type 0
SourceAnswer s text lines t = (us : List ModuleText) × (source_modules text ≡ Ok us) × (lines ≡ source_line (names_in us)) × (t ≡ after_source s us)

abbrev pub DropAnswer : State → List ℕ → List ℕ → State → Type 0
DropAnswer s x lines t = (lines ≡ dropped_line x) × (t ≡ after_drop s x)

-- of a result and all that it needs just that was made which was missing or out of date
abbrev pub MakesIn : State → Key → List Key → State → Type 0
MakesIn s k now t = MadeOf s.made s.texts (walk_in s.texts k) now × (t ≡ after_make s k now)

-- what was made, and that the result is up to date
abbrev pub MakeAnswer : State → Kind → List ℕ → List ℕ → State → Type 0
MakeAnswer s kind x lines t = (now : List Key) × MakesIn s (key kind x) now t × (lines ≡ made_lines now ++ ok_line (key kind x))

-- what was made, and the text of the result for the present texts
abbrev pub ShowAnswer : Show → State → Kind → List ℕ → List ℕ → State → Type 0
ShowAnswer show s kind x lines t =
    (now : List Key) × (text : List ℕ) × MakesIn s (key kind x) now t × (text_for s.texts show kind x ≡ Some text) × (lines ≡ made_lines now ++ text)

-- of the kind of a name
abbrev pub OfKind : (Kind → List ℕ → State → Type 0) → Option Kind → List ℕ → State → Type 0
OfKind Answers None lines t = ⊥
OfKind Answers (Some kind) lines t = Answers kind lines t

-- the written texts of modules are made, one after another
abbrev pub MakesPrinted : State → List (List ℕ) → List Key → State → Type 0
MakesPrinted s [] now t = (now ≡ []) × (t ≡ s)
MakesPrinted s (x ∷ xs) now t =
    (first : List Key) × (later : List Key) × (next : State) × MakesIn s (key Printed x) first next × MakesPrinted next xs later t × (now ≡ first ++ later)

-- what was made, and the written texts of all modules, in the order in which these were first seen
abbrev pub PrintAnswer : Show → State → List ℕ → State → Type 0
PrintAnswer show s lines t =
    (now : List Key) × (text : List ℕ) × MakesPrinted s (names_in s.texts) now t × (texts_named show s.texts (names_in s.texts) ≡ Some text)
    × (lines ≡ made_lines now ++ text_with_count text)

-- ---- all commands

-- the lines that answer a command, and the state after it
abbrev pub AnswersTo : Show → State → Command → List ℕ → State → Type 0
AnswersTo show s (command.Source text) lines t = UnlessRefused (text_refusal text) s (SourceAnswer s text) lines t
AnswersTo show s (command.Drop x) lines t = UnlessRefused (name_refusal s.texts x) s (DropAnswer s x) lines t
AnswersTo show s (command.Make kind x) lines t = UnlessRefused (make_refusal s.texts kind x) s (OfKind (λ k. MakeAnswer s k x) (kind_with kind)) lines t
AnswersTo show s (command.Show kind x) lines t = UnlessRefused (value_refusal s.texts kind x) s (OfKind (λ k. ShowAnswer show s k x) (kind_with kind)) lines t
AnswersTo show s command.Print lines t = UnlessRefused (link_refusal s.texts) s (PrintAnswer show s) lines t
AnswersTo show s command.Bad lines t = Says (refused_line refusal.BadCommand) s lines t
AnswersTo show s command.Short lines t = Says (refused_line refusal.ShortSource) s lines t
