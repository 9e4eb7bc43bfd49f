-- Texts stay modules.
use Rattle.std.proofs.Common.{◌≡◌, ℕ, List, [], ◌∷◌, Option, Some, None, Result, Ok, Err, refl, sym, ap, ◌∙◌, subst}
use Rattle.fixed_form.specs.declared.line.Lines.{Lines}
use Rattle.fixed_form.specs.Reading.{reading}
use Rattle.f77_ast.specs.DeclTrees.{ParsedTree}
use Rattle.f77_parser.specs.Gives.{Refused, and_then}
use Rattle.f77_parser.specs.Modules.{parse_of}
use Rattle.f77_ast.specs.Symbols.{SymbolTree}
use Rattle.fx_lists.specs.declared.refusal.Refusal.{Refusal}
use Rattle.storage_layout.specs.Symbols.{symbols_of}
use Rattle.fixed_form.specs.declared.source.Piece.{Piece}
use Rattle.fixed_form.specs.Pieces.{pieces_of}
use Rattle.session_texts.specs.roundtrip_programs.Laws.{tree_of, TablesIgnorePlaces}
use Rattle.session_texts.specs.roundtrip_programs.Programs.{AreTables}
use Rattle.session_texts.specs.roundtrip_programs.Pieces.Laws.{IsPieceOf, ArePiecesOf, PiecesAreModules}
use Rattle.session_texts.specs.pipsmake_rules.declared.kind.Kind.{Kind}
use Rattle.session_texts.specs.pipsmake_rules.declared.kind.Kind.TheVariants.{Printed}
use Rattle.session_texts.specs.pipsmake_rules.declared.key.Key.{Key}
use Rattle.session_texts.specs.pipsmake_rules.Kinds.{kind_with}
use Rattle.session_texts.specs.declared.command.Command.{Command}
use Rattle.session_texts.specs.declared.command.Command.TheVariants as command
use Rattle.result_lines.specs.declared.show.Show as shows
use Rattle.session_texts.specs.pipsmake_meaning.Texts.{ModuleText, IsModule, AreModules, lines_or, modules_of, with_table, one_module, names_in}
use Rattle.session_texts.specs.Sources.{table_or, tables_of, source_refusal, unless_refused, named_texts, texts_with, texts_of_lines, source_modules}
use Rattle.session_texts.specs.Laws.{ReplacedKeep, WithoutKeep}
use Rattle.pipsmake_db.specs.declared.refusal.DbRefusal.{DbRefusal}
use Rattle.pipsmake_db.specs.State.{State}
use Rattle.pipsmake_db.specs.Refusals.{text_refusal, name_refusal, link_refusal, make_refusal, value_refusal}
use Rattle.pipsmake_db.specs.Calls.{key}
use Rattle.pipsmake_db.specs.Answers.{UnlessRefused, SourceAnswer, DropAnswer, MakesIn, MakeAnswer, ShowAnswer, OfKind, MakesPrinted, PrintAnswer, AnswersTo}
use Rattle.pipsmake_db.specs.Scripts.{AnswersAll}
use Rattle.session_texts.proofs.SourceTexts.{all_tables}

-- ---- the modules of a source text

one_piece : TablesIgnorePlaces → (p : Piece) (m : ParsedTree) (table : List SymbolTree) → IsPieceOf p m → symbols_of m ≡ Ok table → IsModule (record { name = m.module_read.name; text = p.text; first = p.first })
one_piece law p m table h e =
    let read : modules_of p.text ≡ Ok (h.alone ∷ []) = ap (λ (l : Result Lines (ℕ × ℕ)). and_then (lines_or l) parse_of) h.read.lined ∙ h.read.parsed in
    let same : tree_of h.alone ≡ tree_of m = ap tree_of h.same in
    record {
      found = record { module_is = h.alone; table = table };
      is_read = ap one_module read ∙ ap (with_table h.alone) (law m h.alone table same e);
      is_named = ap (λ (q : ParsedTree). q.module_read.name) h.same;
    }

pieces_are : TablesIgnorePlaces → (ps : List Piece) (ms : List ParsedTree) (tables : List (List SymbolTree)) → ArePiecesOf ps ms → AreTables ms tables → AreModules (named_texts ps ms)
pieces_are law [] [] ts h k = tt
pieces_are law [] (m ∷ ms) ts h k = absurd h
pieces_are law (p ∷ ps) [] ts h k = absurd h
pieces_are law (p ∷ ps) (m ∷ ms) [] h k = absurd k
pieces_are law (p ∷ ps) (m ∷ ms) (t ∷ ts) h k = (one_piece law p m t h.0 k.0, pieces_are law ps ms ts h.1 k.1)

source_with : PiecesAreModules → TablesIgnorePlaces → (text : List ℕ) (lines : Lines) (ms : List ParsedTree) (us : List ModuleText) → reading text ≡ Ok lines → parse_of lines ≡ Ok ms → texts_with text lines ms ≡ Ok us → AreModules us
source_with pieces law text lines ms us r p e = go (tables_of ms) refl (source_refusal ms) e
  where
    go : (q : Result (List (List SymbolTree)) Refused) → tables_of ms ≡ q → (o : Option Refusal) → and_then q (λ tables. unless_refused o (named_texts (pieces_of text lines.lines) ms)) ≡ Ok us → AreModules us
    go (Err x) d o g = cc
    go (Ok tables) d (Some x) g = cc
    go (Ok tables) d None g =
        let same : named_texts (pieces_of text lines.lines) ms ≡ us = cc in
        subst AreModules same (pieces_are law (pieces_of text lines.lines) ms tables (pieces text lines ms r p) (all_tables ms tables d))

source_lines : PiecesAreModules → TablesIgnorePlaces → (text : List ℕ) (lines : Lines) (us : List ModuleText) → reading text ≡ Ok lines → texts_of_lines text lines ≡ Ok us → AreModules us
source_lines pieces law text lines us r e = go (parse_of lines) refl e
  where
    go : (q : Result (List ParsedTree) Refused) → parse_of lines ≡ q → and_then q (texts_with text lines) ≡ Ok us → AreModules us
    go (Err x) p g = cc
    go (Ok ms) p g = source_with pieces law text lines ms us r p g

source_are : PiecesAreModules → TablesIgnorePlaces → (text : List ℕ) (us : List ModuleText) → source_modules text ≡ Ok us → AreModules us
unfolding source_modules
source_are pieces law text us e = go (reading text) refl e
  where
    go : (q : Result Lines (ℕ × ℕ)) → reading text ≡ q → and_then (lines_or q) (texts_of_lines text) ≡ Ok us → AreModules us
    go (Err x) r g = cc
    go (Ok lines) r g = source_lines pieces law text lines us r g

-- ---- commands

made_stay : (s : State) (k : Key) (now : List Key) (t : State) → MakesIn s k now t → t.texts ≡ s.texts
made_stay s k now t h = ap (λ (u : State). u.texts) h.1

printed_stay : (s : State) (xs : List (List ℕ)) (now : List Key) (t : State) → MakesPrinted s xs now t → t.texts ≡ s.texts
printed_stay s [] now t h = ap (λ (u : State). u.texts) h.1
printed_stay s (x ∷ xs) now t (first, later, next, one, rest, is) = printed_stay next xs later t rest ∙ made_stay s (key Printed x) first next one

unless_keeps : (s : State) (accepted : List ℕ → State → Type 0) → ((lines : List ℕ) (t : State) → accepted lines t → AreModules t.texts) → AreModules s.texts →
    (why : Option DbRefusal) (lines : List ℕ) (t : State) → UnlessRefused why s accepted lines t → AreModules t.texts
unless_keeps s accepted keeps own None lines t h = keeps lines t h
unless_keeps s accepted keeps own (Some r) lines t h = subst (λ (u : State). AreModules u.texts) (sym h.1) own

of_kind_keeps : (answers : Kind → List ℕ → State → Type 0) → ((k : Kind) (lines : List ℕ) (t : State) → answers k lines t → AreModules t.texts) → (o : Option Kind) (lines : List ℕ) (t : State) → OfKind answers o lines t → AreModules t.texts
of_kind_keeps answers keeps None lines t h = absurd h
of_kind_keeps answers keeps (Some k) lines t h = keeps k lines t h

pub answer_keeps : PiecesAreModules → TablesIgnorePlaces → ReplacedKeep → WithoutKeep → (show : shows.Show) (s : State) (c : Command) (lines : List ℕ) (t : State) → AnswersTo show s c lines t → AreModules s.texts → AreModules t.texts
answer_keeps pieces law put drop show s (command.Source text) lines t h own =
    unless_keeps s (SourceAnswer s text) (λ l u (us, read, w, n). subst (λ (v : State). AreModules v.texts) (sym n) ((put s.texts us).modules (source_are pieces law text us read) own)) own (text_refusal text) lines t h
answer_keeps pieces law put drop show s (command.Drop x) lines t h own =
    unless_keeps s (DropAnswer s x) (λ l u d. subst (λ (v : State). AreModules v.texts) (sym d.1) ((drop x s.texts).modules own)) own (name_refusal s.texts x) lines t h
answer_keeps pieces law put drop show s (command.Make kind x) lines t h own =
    unless_keeps s (OfKind (λ k. MakeAnswer s k x) (kind_with kind)) (of_kind_keeps (λ k. MakeAnswer s k x) (λ k l u (now, m, w). subst AreModules (sym (made_stay s (key k x) now u m)) own) (kind_with kind)) own (make_refusal s.texts kind x) lines t h
answer_keeps pieces law put drop show s (command.Show kind x) lines t h own =
    unless_keeps s (OfKind (λ k. ShowAnswer show s k x) (kind_with kind)) (of_kind_keeps (λ k. ShowAnswer show s k x) (λ k l u (now, text, m, e, w). subst AreModules (sym (made_stay s (key k x) now u m)) own) (kind_with kind)) own
    (value_refusal s.texts kind x) lines t h
answer_keeps pieces law put drop show s command.Print lines t h own =
    unless_keeps s (PrintAnswer show s) (λ l u (now, text, m, e, w). subst AreModules (sym (printed_stay s (names_in s.texts) now u m)) own) own (link_refusal s.texts) lines t h
answer_keeps pieces law put drop show s command.Bad lines t h own = subst (λ (u : State). AreModules u.texts) (sym h.1) own
answer_keeps pieces law put drop show s command.Short lines t h own = subst (λ (u : State). AreModules u.texts) (sym h.1) own

pub all_keep : PiecesAreModules → TablesIgnorePlaces → ReplacedKeep → WithoutKeep → (show : shows.Show) (s : State) (cs : List Command) (out : List ℕ) (t : State) → AnswersAll show s cs out t → AreModules s.texts → AreModules t.texts
all_keep pieces law put drop show s [] out t h own = subst (λ (u : State). AreModules u.texts) (sym h.1) own
all_keep pieces law put drop show s (c ∷ cs) out t (lines, more, next, a, rest, is) own =
    all_keep pieces law put drop show next cs more t rest (answer_keeps pieces law put drop show s c lines next a own)
