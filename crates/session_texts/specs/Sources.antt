-- The modules of a source text, each with the text that it is alone.
use Rattle.std.specs.Prelude.{ℕ, List, [], ◌∷◌, Option, Some, None, option_map, Result, Ok, Err}
use Rattle.fixed_form.specs.declared.line.Lines.{Lines}
use Rattle.fixed_form.specs.Reading.{reading}
use Rattle.fixed_form.specs.declared.source.Piece.{Piece}
use Rattle.fixed_form.specs.Pieces.{pieces_of}
use Rattle.f77_ast.specs.DeclTrees.{ParsedTree}
use Rattle.f77_parser.specs.Gives.{Refused, and_then}
use Rattle.f77_parser.specs.Modules.{parse_of}
use Rattle.f77_ast.specs.Symbols.{SymbolTree}
use Rattle.fx_lists.specs.declared.code.Code.TheVariants.{NoMain}
use Rattle.fx_lists.specs.declared.refusal.Refusal.{Refusal}
use Rattle.fx_lists.specs.Refusals.{number_of}
use Rattle.storage_layout.specs.Symbols.{symbols_of}
use Rattle.call_graph.specs.declared.refusal.Fault.{Fault}
use Rattle.call_graph.specs.declared.refusal.Fault.TheVariants as fault
use Rattle.call_graph.specs.Faults.{or_fault}
use Rattle.call_graph.specs.Modules.{too_many, name_twice, main_twice}
use Rattle.pipsmake_meaning.specs.Texts.{ModuleText, lines_or}

-- the line of a refusal and the number of its code; only what is outside the profile has a keyword
abbrev pub refused : Refusal → Refused
refused r = record { line = r.line; code = number_of r.code; keyword = [] }

-- ---- symbols

-- a table of symbols, or its refusal as one of reading
abbrev pub table_or : Result (List SymbolTree) Refusal → Result (List SymbolTree) Refused
table_or (Ok table) = Ok table
table_or (Err r) = Err (refused r)

-- the table of symbols of each module, or the first refusal: modules in the order of the text
abbrev pub tables_of : List ParsedTree → Result (List (List SymbolTree)) Refused
tables_of [] = Ok []
tables_of (m ∷ ms) = and_then (table_or (symbols_of m)) (λ t. and_then (tables_of ms) (λ ts. Ok (t ∷ ts)))

-- ---- the modules of one text beside one another

-- a fault at its line of the text, in whichever module that is
abbrev pub refusal_for : Fault → Refusal
refusal_for fault.NoMain = record { line = 1; code = NoMain }
refusal_for (fault.At place line cause) = record { line = line; code = cause }

-- more than 256 modules, a name twice, or two main programs; a text need not have a main program, nor the modules that it calls
abbrev pub source_refusal : List ParsedTree → Option Refusal
source_refusal ms = option_map refusal_for (or_fault (too_many ms) (or_fault (name_twice ms) (main_twice ms)))

abbrev pub unless_refused : {A : Type 0} → Option Refusal → A → Result A Refused
unless_refused None a = Ok a
unless_refused (Some r) a = Err (refused r)

-- ---- texts

-- each text with the name of its module
abbrev pub named_texts : List Piece → List ParsedTree → List ModuleText
named_texts [] ms = []
named_texts (p ∷ ps) [] = []
named_texts (p ∷ ps) (m ∷ ms) = record { name = m.module_read.name; text = p.text; first = p.first } ∷ named_texts ps ms

-- of modules that were read from these statements of a text: their symbols come before what is wrong with them together
abbrev pub texts_with : List ℕ → Lines → List ParsedTree → Result (List ModuleText) Refused
texts_with text lines ms =
    and_then (tables_of ms) (λ tables. unless_refused (source_refusal ms) (named_texts (pieces_of text lines.lines) ms))

abbrev pub texts_of_lines : List ℕ → Lines → Result (List ModuleText) Refused
texts_of_lines text lines = and_then (parse_of lines) (texts_with text lines)

-- the modules of a source text, pass by pass: lines, then statements and structure, then symbols, then number, names and main programs
unfoldable pub source_modules : List ℕ → Result (List ModuleText) Refused
source_modules text = and_then (lines_or (reading text)) (texts_of_lines text)
