-- What reading a text gives: its program, or its first refusal.
use Rattle.std.specs.Prelude.{ℕ, List, [], Result, Ok, Err}
use Rattle.fixed_form.specs.declared.line.Lines.{Lines}
use Rattle.fixed_form.specs.Reading as lines
use Rattle.f77_ast.specs.DeclTrees.{ParsedTree}
use Rattle.f77_parser.specs.Gives.{Refused, and_then}
use Rattle.f77_parser.specs.Modules.{parse_of}
use Rattle.f77_parser.specs.declared.refusal.ParseRefusal.{ParseRefusal}
use Rattle.f77_parser.specs.declared.refusal.ParseRefusal.TheVariants as parse
use Rattle.f77_ast.specs.Symbols.{SymbolTree}
use Rattle.fx_lists.specs.Refusals.{number_of}
use Rattle.call_graph.specs.declared.graph.Graph.{Graph}
use Rattle.call_graph.specs.declared.refusal.Fault.{Fault}
use Rattle.call_graph.specs.declared.refusal.Fault.TheVariants.{NoMain, At}
use Rattle.call_graph.specs.declared.refusal.LinkRefusal.{LinkRefusal}
use Rattle.call_graph.specs.declared.refusal.LinkRefusal.TheVariants as unlinked
use Rattle.call_graph.specs.Links.{link_of}
use Rattle.pips_top.specs.Program.{ProgramTree}
use Rattle.pipsmake_base.specs.session_texts.Sources.{tables_of}

-- refused at a line of the text; only what is outside the profile has a keyword
abbrev pub refused_at : ℕ → ℕ → Refused
refused_at line code = record { line = line; code = code; keyword = [] }

-- the lines of a text, with the line and the code of a refusal
abbrev pub lines_or : Result Lines (ℕ × ℕ) → Result Lines Refused
lines_or (Ok read) = Ok read
lines_or (Err at) = Err (refused_at at.0 at.1)

-- the line, which is one of the text in whichever module it stands, and the code of what is wrong with links; the want of a main program is refused at line 1
abbrev pub refused_for : Fault → Refused
refused_for NoMain = refused_at 1 50
refused_for (At place line cause) = refused_at line (number_of cause)

-- the same of what linking returns
abbrev pub in_reading : LinkRefusal → ParseRefusal
in_reading unlinked.NoMain = parse.At 1 50 []
in_reading (unlinked.At place line code) = parse.At line code []
in_reading unlinked.Memory = parse.Memory

abbrev pub graph_or : Result Graph Fault → Result Graph Refused
graph_or (Ok graph) = Ok graph
graph_or (Err fault) = Err (refused_for fault)

-- modules and their tables, where they link
abbrev pub linked_by : List ParsedTree → List (List SymbolTree) → Result Graph Refused → Result ProgramTree Refused
linked_by ms ts found = and_then found (λ g. Ok (record { modules = ms; tables = ts; graph = g }))

-- the program of modules: their symbols, then their links
unfoldable pub program_of : List ParsedTree → Result ProgramTree Refused
program_of ms = and_then (tables_of ms) (λ ts. linked_by ms ts (graph_or (link_of ms ts)))

-- pass by pass: lines, then statements and structure, then symbols, then links
unfoldable pub reading : List ℕ → Result ProgramTree Refused
reading text = and_then (and_then (lines_or (lines.reading text)) parse_of) program_of
