-- How a source text is read whose modules are read, pass by pass.
use Rattle.std.proofs.Common.{◌≡◌, ℕ, List, [], ◌∷◌, Option, Some, None, Result, Ok, refl, ap, ◌∙◌}
use Rattle.std.specs.Prelude.{option_map}
use Rattle.f77_ast.specs.DeclTrees.{ParsedTree}
use Rattle.f77_parser.specs.Gives.{and_then}
use Rattle.f77_ast.specs.Symbols.{SymbolTree}
use Rattle.call_graph.specs.declared.graph.Graph.{Graph}
use Rattle.call_graph.specs.declared.refusal.Fault.{Fault}
use Rattle.call_graph.specs.Faults.{or_fault, unless}
use Rattle.call_graph.specs.Modules.{too_many, name_twice, main_twice, no_main}
use Rattle.call_graph.specs.Links.{joined_of, link_of}
use Rattle.fixed_form.specs.Pieces.{pieces_of}
use Rattle.laws_programs.specs.roundtrip_programs.Texts.Texts.{IsReadAs}
use Rattle.laws_programs.specs.roundtrip_programs.Programs.{AreTables}
use Rattle.session_texts.specs.pipsmake_meaning.Texts.{lines_or}
use Rattle.session_texts.specs.Sources.{table_or, tables_of, refusal_for, source_refusal, unless_refused, named_texts, texts_with, texts_of_lines, source_modules}

-- ---- tables

pub tables_are : (ms : List ParsedTree) (tables : List (List SymbolTree)) → AreTables ms tables → tables_of ms ≡ Ok tables
tables_are [] [] h = refl
tables_are [] (table ∷ tables) h = absurd h
tables_are (m ∷ ms) [] h = absurd h
tables_are (m ∷ ms) (table ∷ tables) h =
    ap (λ r. and_then (table_or r) (λ t. and_then (tables_of ms) (λ ts. Ok (t ∷ ts)))) h.0
    ∙ ap (λ r. and_then r (λ ts. Ok (table ∷ ts))) (tables_are ms tables h.1)

-- ---- what is wrong with modules before they are linked

none-of : (a b c d : Option Fault) (r : Result Graph Fault) (g : Graph) → unless a (unless (or_fault b (or_fault c d)) r) ≡ Ok g → option_map refusal_for (or_fault a (or_fault b c)) ≡ None
none-of None None None d r g h = refl
none-of None None (Some f) d r g h = cc
none-of None (Some f) c d r g h = cc
none-of (Some f) b c d r g h = cc

pub linked_not_refused : (ms : List ParsedTree) (tables : List (List SymbolTree)) (g : Graph) → link_of ms tables ≡ Ok g → source_refusal ms ≡ None
linked_not_refused ms tables g h = none-of (too_many ms) (name_twice ms) (main_twice ms) (no_main ms) (joined_of ms tables) g h

-- ---- the modules of a text

-- a text that is read as modules, which have tables
pub modules_read : (text : List ℕ) (ms : List ParsedTree) (tables : List (List SymbolTree)) (r : IsReadAs text ms) → AreTables ms tables
    → source_modules text ≡ unless_refused (source_refusal ms) (named_texts (pieces_of text r.lines.lines) ms)
unfolding source_modules
modules_read text ms tables r h =
    ap (λ x. and_then (lines_or x) (texts_of_lines text)) r.lined
    ∙ ap (λ x. and_then x (texts_with text r.lines)) r.parsed
    ∙ ap (λ x. and_then x (λ ts. unless_refused (source_refusal ms) (named_texts (pieces_of text r.lines.lines) ms))) (tables_are ms tables h)
