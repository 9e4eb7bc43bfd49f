-- A source text is refused, or its modules link, as the whole text.
use Rattle.std.proofs.Common.{◌≡◌, ℕ, List, Option, Some, None, Result, Ok, Err, refl, sym, ap, ◌∙◌}
use Rattle.std.specs.Prelude.{option_map}
use Rattle.fixed_form.specs.declared.line.Lines.{Lines}
use Rattle.fixed_form.specs.Reading.{reading}
use Rattle.f77_ast.specs.DeclTrees.{ParsedTree}
use Rattle.f77_parser.specs.Gives.{Refused, and_then}
use Rattle.f77_parser.specs.Modules.{parse_of}
use Rattle.f77_ast.specs.Symbols.{SymbolTree}
use Rattle.fx_lists.specs.declared.refusal.Refusal.{Refusal}
use Rattle.call_graph.specs.declared.graph.Graph.{Graph}
use Rattle.call_graph.specs.declared.refusal.Fault.{Fault}
use Rattle.call_graph.specs.declared.refusal.Fault.TheVariants as fault
use Rattle.call_graph.specs.Faults.{or_fault, unless}
use Rattle.call_graph.specs.Modules.{too_many, name_twice, main_twice, no_main}
use Rattle.call_graph.specs.Links.{joined_of, link_of}
use Rattle.fixed_form.specs.Pieces.{pieces_of}
use Rattle.laws_programs.specs.roundtrip_programs.Laws.{TablesIgnorePlaces, GraphsIgnorePlaces}
use Rattle.laws_programs.specs.roundtrip_programs.Pieces.Laws.{PiecesAreModules}
use Rattle.session_texts.specs.pipsmake_meaning.Texts.{ModuleText, lines_or, links_in, trees_in}
use Rattle.session_texts.specs.Sources.{refused, refusal_for, tables_of, source_refusal, unless_refused, named_texts, texts_with, texts_of_lines, source_modules}
use Rattle.laws_database.specs.Sources.Whole.{linked_or, linked_modules, fault_in, in_source, linked_texts, source_links, LinkedAlike, SomeProgram, LinkedIsAccepted}
use Rattle.laws_database.proofs.Sources.Moved.{moved_fault, wrong, trees-same, link_moved, fault_moved}
use Rattle.laws_database.proofs.Sources.Pieces.{before_of, pieces_read}
use Rattle.session_texts.proofs.SourceTexts.{all_tables}

-- ---- what a source is refused for

refused-by : (a b c d : Option Fault) (r : Result Graph Fault) (x : Refusal) → option_map refusal_for (or_fault a (or_fault b c)) ≡ Some x
    → Err (refused x) ≡ linked_or (unless a (unless (or_fault b (or_fault c d)) r))
refused-by None None None d r x h = cc
refused-by None None (Some f) d r x h = let same : refusal_for f ≡ x = cc in ap (λ y. Err (refused y)) (sym same)
refused-by None (Some f) c d r x h = let same : refusal_for f ≡ x = cc in ap (λ y. Err (refused y)) (sym same)
refused-by (Some f) b c d r x h = let same : refusal_for f ≡ x = cc in ap (λ y. Err (refused y)) (sym same)

refused_alike : (ms : List ParsedTree) (tables : List (List SymbolTree)) (x : Refusal) → source_refusal ms ≡ Some x → Err (refused x) ≡ linked_or (link_of ms tables)
refused_alike ms tables x h = refused-by (too_many ms) (name_twice ms) (main_twice ms) (no_main ms) (joined_of ms tables) x h

-- ---- links

fault-same : (ts : List ModuleText) (f : Fault) → fault_in ts f ≡ moved_fault (before_of ts) f
fault-same ts fault.NoMain = refl
fault-same ts (fault.At place line cause) = refl

module _ (pieces_law : PiecesAreModules) (tables_law : TablesIgnorePlaces) (graphs_law : GraphsIgnorePlaces) where
  -- modules that are read from these lines, and for which a source is not refused
  links_alike : (text : List ℕ) (lines : Lines) (ms : List ParsedTree) (tables : List (List SymbolTree)) → reading text ≡ Ok lines → parse_of lines ≡ Ok ms → tables_of ms ≡ Ok tables → source_refusal ms ≡ None
      → in_source (named_texts (pieces_of text lines.lines) ms) (links_in (named_texts (pieces_of text lines.lines) ms)) ≡ link_of ms tables
  links_alike text lines ms tables l p t n =
      let ts = named_texts (pieces_of text lines.lines) ms in
      let r = pieces_read tables_law (pieces_of text lines.lines) ms tables (pieces_law text lines ms l p) (all_tables ms tables t) in
      let alone = trees_in ts in
      ap (λ x. in_source ts (link_of alone x)) r.tabled
      ∙ go ts alone (link_of alone tables) refl
      (λ g e. graphs_law alone ms tables g (sym (trees-same (before_of ts) 0 alone ms r.moved)) e)
      (λ f e. fault_moved (before_of ts) f (link_of ms tables) (ap (λ x. option_map (moved_fault (before_of ts)) (wrong x)) (sym e) ∙ link_moved (before_of ts) alone ms tables r.moved r.lines n))
    where
      go : (ts : List ModuleText) (alone : List ParsedTree) (s : Result Graph Fault) → link_of alone tables ≡ s → ((g : Graph) → link_of alone tables ≡ Ok g → link_of ms tables ≡ Ok g)
          → ((f : Fault) → link_of alone tables ≡ Err f → link_of ms tables ≡ Err (moved_fault (before_of ts) f)) → in_source ts (link_of alone tables) ≡ link_of ms tables
      go ts alone (Ok g) e a b = ap (in_source ts) e ∙ sym (a g e)
      go ts alone (Err f) e a b = ap (in_source ts) e ∙ ap Err (fault-same ts f) ∙ sym (b f e)

  with-refusal : (text : List ℕ) (lines : Lines) (ms : List ParsedTree) (tables : List (List SymbolTree)) (o : Option Refusal) → reading text ≡ Ok lines → parse_of lines ≡ Ok ms → tables_of ms ≡ Ok tables
      → source_refusal ms ≡ o → and_then (unless_refused o (named_texts (pieces_of text lines.lines) ms)) linked_texts ≡ linked_or (link_of ms tables)
  with-refusal text lines ms tables None l p t n = ap linked_or (links_alike text lines ms tables l p t n)
  with-refusal text lines ms tables (Some x) l p t n = refused_alike ms tables x n

  with-tables : (text : List ℕ) (lines : Lines) (ms : List ParsedTree) (r : Result (List (List SymbolTree)) Refused) → reading text ≡ Ok lines → parse_of lines ≡ Ok ms → tables_of ms ≡ r
      → and_then (and_then r (λ tables. unless_refused (source_refusal ms) (named_texts (pieces_of text lines.lines) ms))) linked_texts ≡ and_then r (λ tables. linked_or (link_of ms tables))
  with-tables text lines ms (Err x) l p t = refl
  with-tables text lines ms (Ok tables) l p t = with-refusal text lines ms tables (source_refusal ms) l p t refl

  with-modules : (text : List ℕ) (lines : Lines) (r : Result (List ParsedTree) Refused) → reading text ≡ Ok lines → parse_of lines ≡ r
      → and_then (and_then r (texts_with text lines)) linked_texts ≡ and_then r linked_modules
  with-modules text lines (Err x) l p = refl
  with-modules text lines (Ok ms) l p = with-tables text lines ms (tables_of ms) l p refl

  with-lines : (text : List ℕ) (r : Result Lines (ℕ × ℕ)) → reading text ≡ r
      → and_then (and_then (lines_or r) (texts_of_lines text)) linked_texts ≡ and_then (and_then (lines_or r) parse_of) linked_modules
  with-lines text (Err x) l = refl
  with-lines text (Ok lines) l = with-modules text lines (parse_of lines) l refl

  pub linked_alike : LinkedAlike
  unfolding source_modules
  linked_alike text = with-lines text (reading text) refl

-- ---- a text whose modules link

from-links : (text : List ℕ) (g : Graph) (lines : Lines) (ms : List ParsedTree) (tables : List (List SymbolTree)) (r : Result Graph Fault) → reading text ≡ Ok lines → parse_of lines ≡ Ok ms → tables_of ms ≡ Ok tables
    → link_of ms tables ≡ r → linked_or r ≡ Ok g → SomeProgram text g
from-links text g lines ms tables (Err f) l p t e h = cc
from-links text g lines ms tables (Ok d) l p t e h =
    let same : d ≡ g = cc in
    record {
      modules = ms;
      tables = tables;
      program = record { read = record { lines = lines; lined = l; parsed = p }; tabled = all_tables ms tables t; linked = e ∙ ap Ok same };
    }

from-tables : (text : List ℕ) (g : Graph) (lines : Lines) (ms : List ParsedTree) (r : Result (List (List SymbolTree)) Refused) → reading text ≡ Ok lines → parse_of lines ≡ Ok ms → tables_of ms ≡ r
    → and_then r (λ tables. linked_or (link_of ms tables)) ≡ Ok g → SomeProgram text g
from-tables text g lines ms (Err x) l p t h = cc
from-tables text g lines ms (Ok tables) l p t h = from-links text g lines ms tables (link_of ms tables) l p t refl h

from-modules : (text : List ℕ) (g : Graph) (lines : Lines) (r : Result (List ParsedTree) Refused) → reading text ≡ Ok lines → parse_of lines ≡ r → and_then r linked_modules ≡ Ok g → SomeProgram text g
from-modules text g lines (Err x) l p h = cc
from-modules text g lines (Ok ms) l p h = from-tables text g lines ms (tables_of ms) l p refl h

from-lines : (text : List ℕ) (g : Graph) (r : Result Lines (ℕ × ℕ)) → reading text ≡ r → and_then (and_then (lines_or r) parse_of) linked_modules ≡ Ok g → SomeProgram text g
from-lines text g (Err x) l h = cc
from-lines text g (Ok lines) l h = from-modules text g lines (parse_of lines) l refl h

pub linked_is_accepted : LinkedAlike → LinkedIsAccepted
linked_is_accepted law text ts g e l =
    let given : source_links text ≡ Ok g = ap (λ x. and_then x linked_texts) e ∙ ap (λ x. linked_or (in_source ts x)) l in
    from-lines text g (reading text) refl (sym (law text) ∙ given)
