-- The text of an accepted program is split into its modules.
use Rattle.std.proofs.Common.{◌≡◌, ℕ, true, List, [], ◌∷◌, ◌++◌, map, Some, None, Ok, refl, sym, ap, ◌∙◌, subst}
use Rattle.std.specs.Prelude.{bytes_eq, option_map, option_and_then}
use Rattle.std.proofs.lemmas.Bool.{or_left, or_right}
use Rattle.std.proofs.lemmas.Slice.Eq.{bytes_eq-Decides}
use Rattle.std.specs.List.{IsDistinct}
use Rattle.f77_ast.specs.DeclTrees.{ParsedTree}
use Rattle.call_graph.specs.declared.graph.Graph.{Graph}
use Rattle.call_graph.specs.Modules.{names_of}
use Rattle.fixed_form.specs.declared.source.Piece.{Piece}
use Rattle.fixed_form.specs.Pieces.{pieces_of}
use Rattle.result_lines.specs.declared.show.Show.{Show}
use Rattle.laws_programs.specs.roundtrip_programs.Pieces.Laws.{ArePiecesOf, PiecesAreModules}
use Rattle.laws_programs.specs.roundtrip_programs.Pieces.Programs.{text_in}
use Rattle.session_texts.specs.pipsmake_rules.Neighbours.{has_name}
use Rattle.session_texts.specs.pipsmake_meaning.Texts.{ModuleText, AreModules, names_in, links_in}
use Rattle.session_texts.specs.pipsmake_meaning.Definitions.{results_in, text_shown}
use Rattle.laws_database.proofs.Modules.{read_at, entry_of}
use Rattle.laws_database.specs.ProgramTexts.{name_of, texts_of, text_named, before_text, texts_named}
use Rattle.laws_database.specs.ProgramTextLaws.{SameProgram, PiecesAreTheProgram, NamesShowTheText}
use Rattle.session_texts.specs.Modules.{NamesDiffer}
use Rattle.session_texts.specs.Sources.{source_refusal, unless_refused, named_texts}
use Rattle.session_texts.proofs.SourceNames.{names_differ}
use Rattle.laws_database.specs.Sources.Laws.{AcceptedIsSplit}
use Rattle.laws_database.proofs.Sources.Read.{linked_not_refused, modules_read}

-- ---- the texts of the pieces with the names of the modules

pub texts_are : (ps : List Piece) (ms : List ParsedTree) → ArePiecesOf ps ms → texts_of (named_texts ps ms) ≡ map text_in ps
texts_are [] [] h = refl
texts_are [] (m ∷ ms) h = absurd h
texts_are (p ∷ ps) [] h = absurd h
texts_are (p ∷ ps) (m ∷ ms) h = ap (λ rest. p.text ∷ rest) (texts_are ps ms h.1)

pub names_are : (ps : List Piece) (ms : List ParsedTree) → ArePiecesOf ps ms → names_in (named_texts ps ms) ≡ map name_of ms
names_are [] [] h = refl
names_are [] (m ∷ ms) h = absurd h
names_are (p ∷ ps) [] h = absurd h
names_are (p ∷ ps) (m ∷ ms) h = ap (λ rest. name_of m ∷ rest) (names_are ps ms h.1)

names-same : (ms : List ParsedTree) → names_of ms ≡ map name_of ms
names-same [] = refl
names-same (m ∷ ms) = ap (λ rest. name_of m ∷ rest) (names-same ms)

-- of modules that are not refused beside one another
pub differ : (ts : List ModuleText) (ms : List ParsedTree) → names_in ts ≡ map name_of ms → source_refusal ms ≡ None → NamesDiffer ts
differ ts ms e n = subst (IsDistinct bytes_eq) (names-same ms ∙ sym e) (names_differ ms n)

-- ---- each module has a text with its results

abbrev Named : List ModuleText → List ModuleText → Type 0
Named ts us = (x : List ℕ) → has_name (names_in us) x ≡ true → has_name (names_in ts) x ≡ true

module _ (show : Show) (ts : List ModuleText) (ms : AreModules ts) (g : Graph) (l : links_in ts ≡ Ok g) where
  one-shown : (x : List ℕ) → has_name (names_in ts) x ≡ true → (out : List ℕ) × (text_named show ts x ≡ Some out)
  one-shown x h =
      let r = read_at ts ms x h in
      let e = entry_of ts g l x r in (
        text_shown show r.read e.entry,
        ap (option_and_then (λ m. option_map (text_shown show m) (results_in ts x))) r.is_read ∙ ap (option_map (text_shown show r.read)) e.result,
      )

  pub all-shown : (us : List ModuleText) → Named ts us → (out : List ℕ) × (texts_named show ts (names_in us) ≡ Some out)
  all-shown [] h = ([], refl)
  all-shown (u ∷ us) h =
      let first = one-shown u.name (h u.name (or_left (bytes_eq u.name u.name) (has_name (names_in us) u.name) ((bytes_eq-Decides u.name u.name).1 refl))) in
      let more = all-shown us (λ x k. h x (or_right (bytes_eq u.name x) (has_name (names_in us) x) k)) in (
        first.0 ++ more.0,
        ap (λ o. before_text o (texts_named show ts (names_in us))) first.1 ∙ ap (before_text (Some first.0)) more.1,
      )

-- ---- the program

pub accepted_is_split : PiecesAreModules → PiecesAreTheProgram → NamesShowTheText → AcceptedIsSplit
accepted_is_split pieces_law program_law names_law text ms tables g p =
    let ps = pieces_of text p.read.lines.lines in
    let cut : ArePiecesOf ps ms = pieces_law text p.read.lines ms p.read.lined p.read.parsed in
    let ts = named_texts ps ms in
    let named : names_in ts ≡ map name_of ms = names_are ps ms cut in
    let same : SameProgram ms tables g ts = program_law text ms tables g p ts (texts_are ps ms cut) named in
    let clean : source_refusal ms ≡ None = linked_not_refused ms tables g p.linked in
    record {
      texts = ts;
      read = modules_read text ms tables p.read p.tabled ∙ ap (λ o. unless_refused o ts) clean;
      named = named;
      differ = differ ts ms named clean;
      modules = same.modules;
      tabled = same.tabled;
      linked = same.linked;
      known = same.known;
      alike = same.alike;
      shown = λ show.
          (let r = all-shown show ts same.modules g same.linked ts (λ x h. h) in
          r.1 ∙ ap Some (sym (names_law show ts g r.0 same.modules same.linked r.1) ∙ sym (same.written show)));
    }
