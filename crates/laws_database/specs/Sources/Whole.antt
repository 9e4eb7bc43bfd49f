-- The links of a text read as a whole, and those of its modules, each read by itself.
use Rattle.std.specs.Prelude.{◌≡◌, ℕ, ◌+◌, ◌-◌, ◌≤◌, List, slice_get, Option, Some, None, Result, Ok, Err}
use Rattle.f77_ast.specs.DeclTrees.{ParsedTree}
use Rattle.f77_parser.specs.Gives.{Refused, and_then}
use Rattle.f77_ast.specs.Symbols.{SymbolTree}
use Rattle.call_graph.specs.declared.graph.Graph.{Graph}
use Rattle.call_graph.specs.declared.refusal.Fault.{Fault}
use Rattle.call_graph.specs.declared.refusal.Fault.TheVariants.{NoMain, At}
use Rattle.call_graph.specs.Links.{link_of}
use Rattle.laws_programs.specs.roundtrip_programs.Programs.{IsProgram}
use Rattle.laws_programs.specs.roundtrip_programs.Statements.Formed.{Each}
use Rattle.session_texts.specs.pipsmake_meaning.Texts.{ModuleText, modules_of, links_in}
use Rattle.session_texts.specs.Sources.{refused, refusal_for, tables_of, source_modules}

-- links, or what is wrong with them as a refusal of the text in which they are: at its line, or at line 1 where there is no main program
abbrev pub linked_or : Result Graph Fault → Result Graph Refused
linked_or (Ok g) = Ok g
linked_or (Err f) = Err (refused (refusal_for f))

-- ---- the text as a whole

abbrev pub linked_modules : List ParsedTree → Result Graph Refused
linked_modules ms = and_then (tables_of ms) (λ tables. linked_or (link_of ms tables))

-- the links of the modules of a text, or its first refusal, pass by pass: lines, then statements and structure, then symbols, then links
abbrev pub whole_links : List ℕ → Result Graph Refused
whole_links text = and_then (modules_of text) linked_modules

-- ---- its modules, each in a text of its own

-- so many lines of the source come before a module's text
abbrev pub lines_before : Option ModuleText → ℕ
lines_before None = 0
lines_before (Some t) = t.first - 1

-- what is wrong with links of these texts, at a line of the source
abbrev pub fault_in : List ModuleText → Fault → Fault
fault_in ts NoMain = NoMain
fault_in ts (At place line cause) = At place (line + lines_before (slice_get ts place)) cause

abbrev pub in_source : List ModuleText → Result Graph Fault → Result Graph Fault
in_source ts (Ok g) = Ok g
in_source ts (Err f) = Err (fault_in ts f)

abbrev pub linked_texts : List ModuleText → Result Graph Refused
linked_texts ts = linked_or (in_source ts (links_in ts))

-- the links of the modules of a source text, or its first refusal: what a source is refused for, then links
abbrev pub source_links : List ℕ → Result Graph Refused
source_links text = and_then (source_modules text) linked_texts

-- ---- they are the same

-- whoever reads a source text into its modules, and links these, has its links or its first refusal: the line, the code and the keyword
abbrev pub LinkedAlike : Type 0
LinkedAlike = (text : List ℕ) → source_links text ≡ whole_links text

-- a text that is read as modules which link is that of a program
pub record SomeProgram (text : List ℕ) (g : Graph) : Type 0 where
  pub modules : List ParsedTree
  pub tables : List (List SymbolTree)
  pub program : IsProgram text modules tables g

abbrev pub LinkedIsAccepted : Type 0
LinkedIsAccepted = (text : List ℕ) (ts : List ModuleText) (g : Graph) → source_modules text ≡ Ok ts → links_in ts ≡ Ok g → SomeProgram text g

-- ---- where texts begin

abbrev pub BeginsAtLine : ModuleText → Type 0
BeginsAtLine t = 1 ≤ t.first

-- lines of a source are counted from 1
abbrev pub TextsBeginAtLines : Type 0
TextsBeginAtLines = (text : List ℕ) (ts : List ModuleText) → source_modules text ≡ Ok ts → Each BeginsAtLine ts
