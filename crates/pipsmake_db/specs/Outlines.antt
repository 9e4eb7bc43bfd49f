-- What a session answers whatever is kept of results: its refusals, its texts, and which results are fresh. Which results are made, and what is shown of them, is left open.
use Rattle.std.specs.Prelude.{◌≡◌, ℕ, List, [], ◌∷◌, ◌++◌, Option, Some, None, IsSomeAnd, Ok}
use Rattle.session_texts.specs.pipsmake_rules.declared.kind.Kind.TheVariants.{Printed}
use Rattle.session_texts.specs.pipsmake_rules.declared.key.Key.{Key}
use Rattle.session_texts.specs.pipsmake_rules.Kinds.{kind_with}
use Rattle.session_texts.specs.declared.command.Command.{Command}
use Rattle.session_texts.specs.declared.command.Command.TheVariants as command
use Rattle.session_texts.specs.declared.refusal.Refusal.TheVariants as refusal
use Rattle.session_texts.specs.Answers.{source_line, dropped_line, made_lines, ok_line, text_with_count}
use Rattle.session_texts.specs.Changes.{replaced, without}
use Rattle.session_texts.specs.Commands.{commands_of}
use Rattle.session_texts.specs.Refusals.{refused_line}
use Rattle.session_texts.specs.Sources.{source_modules}
use Rattle.session_texts.specs.pipsmake_meaning.Texts.{ModuleText, names_in}
use Rattle.laws_database.specs.Laws.{walk_in}
use Rattle.pipsmake_db.specs.declared.db.Db.{Db}
use Rattle.pipsmake_db.specs.declared.refusal.DbRefusal.{DbRefusal}
use Rattle.pipsmake_db.specs.Answers.{refusal_line}
use Rattle.pipsmake_db.specs.Calls.{key}
use Rattle.pipsmake_db.specs.Fresh.{keys_put}
use Rattle.pipsmake_db.specs.Refusals.{text_refusal, name_refusal, link_refusal, make_refusal, value_refusal}
use Rattle.pipsmake_db.specs.State.{texts_of}

-- the texts of a session, and its fresh results: those that were asked for, with what they need, since a text changed last
pub record Outline : Type 0 where
  pub texts : List ModuleText
  pub fresh : List Key

abbrev pub outline_of : Db → Outline
outline_of d = record { texts = texts_of d; fresh = d.fresh }

-- ---- the next ones

-- texts have changed
abbrev pub with_texts : List ModuleText → Outline
with_texts ts = record { texts = ts; fresh = [] }

-- a result was asked for
abbrev pub after_asked : Outline → Key → Outline
after_asked o k = record { texts = o.texts; fresh = keys_put o.fresh (walk_in o.texts k) }

-- the written texts of these modules were asked for
abbrev pub after_printed : Outline → List (List ℕ) → Outline
after_printed o [] = o
after_printed o (x ∷ xs) = after_printed (after_asked o (key Printed x)) xs

-- ---- one command

-- a command that is refused says so in one line, and changes nothing
abbrev pub UnlessRefusedBy : Option DbRefusal → Outline → (List ℕ → Outline → Type 0) → List ℕ → Outline → Type 0
UnlessRefusedBy None o Accepts lines p = Accepts lines p
UnlessRefusedBy (Some r) o Accepts lines p = (lines ≡ refusal_line r) × (p ≡ o)

-- the modules that were read; each takes the place of the one of its name, or is added as the last
abbrev pub OutlinesSource : Outline → List ℕ → List ℕ → Outline → Type 0
OutlinesSource o text lines p = (us : List ModuleText) × (source_modules text ≡ Ok us) × (lines ≡ source_line (names_in us)) × (p ≡ with_texts (replaced o.texts us))

abbrev pub OutlinesDrop : Outline → List ℕ → List ℕ → Outline → Type 0
OutlinesDrop o x lines p = (lines ≡ dropped_line x) × (p ≡ with_texts (without x o.texts))

-- which results were made, and that the one that was asked for is up to date
abbrev pub OutlinesMake : Outline → Key → List ℕ → Outline → Type 0
OutlinesMake o k lines p = (now : List Key) × (lines ≡ made_lines now ++ ok_line k) × (p ≡ after_asked o k)

-- which results were made, and a text
abbrev pub OutlinesShow : Outline → Key → List ℕ → Outline → Type 0
OutlinesShow o k lines p = (now : List Key) × (text : List ℕ) × (lines ≡ made_lines now ++ text) × (p ≡ after_asked o k)

-- which results were made, and a text with the number of its lines
abbrev pub OutlinesPrint : Outline → List ℕ → Outline → Type 0
OutlinesPrint o lines p = (now : List Key) × (text : List ℕ) × (lines ≡ made_lines now ++ text_with_count text) × (p ≡ after_printed o (names_in o.texts))

-- lines that may answer a command, and the outline after it
abbrev pub OutlinesTo : Outline → Command → List ℕ → Outline → Type 0
OutlinesTo o (command.Source text) lines p = UnlessRefusedBy (text_refusal text) o (OutlinesSource o text) lines p
OutlinesTo o (command.Drop x) lines p = UnlessRefusedBy (name_refusal o.texts x) o (OutlinesDrop o x) lines p
OutlinesTo o (command.Make kind x) lines p = UnlessRefusedBy (make_refusal o.texts kind x) o (λ ls q. IsSomeAnd (kind_with kind) (λ k. OutlinesMake o (key k x) ls q)) lines p
OutlinesTo o (command.Show kind x) lines p = UnlessRefusedBy (value_refusal o.texts kind x) o (λ ls q. IsSomeAnd (kind_with kind) (λ k. OutlinesShow o (key k x) ls q)) lines p
OutlinesTo o command.Print lines p = UnlessRefusedBy (link_refusal o.texts) o (OutlinesPrint o) lines p
OutlinesTo o command.Bad lines p = (lines ≡ refused_line refusal.BadCommand) × (p ≡ o)
OutlinesTo o command.Short lines p = (lines ≡ refused_line refusal.ShortSource) × (p ≡ o)

-- ---- all commands

abbrev pub OutlinesAll : Outline → List Command → List ℕ → Outline → Type 0
OutlinesAll o [] out p = (out ≡ []) × (p ≡ o)
OutlinesAll o (c ∷ cs) out p = (lines : List ℕ) × (more : List ℕ) × (next : Outline) × OutlinesTo o c lines next × OutlinesAll next cs more p × (out ≡ lines ++ more)

-- those of a script
abbrev pub OutlinesScript : Outline → List ℕ → List ℕ → Outline → Type 0
OutlinesScript o script out p = OutlinesAll o (commands_of script) out p
