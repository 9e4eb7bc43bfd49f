-- A program as a list of module texts, each read by itself.
use Rattle.std.specs.Prelude.{◌≡◌, ℕ, List, [], ◌∷◌, ◌++◌, map, Option, Some, None, Result, Ok, Err, bytes_eq, option_to_list, if◌then◌else◌}
use Rattle.fixed_form.specs.declared.line.Lines.{Lines}
use Rattle.fixed_form.specs.Reading.{reading}
use Rattle.f77_ast.specs.DeclTrees.{ParsedTree}
use Rattle.f77_parser.specs.Gives.{Refused, and_then}
use Rattle.f77_parser.specs.Modules.{parse_of}
use Rattle.f77_ast.specs.Symbols.{SymbolTree}
use Rattle.fx_lists.specs.declared.refusal.Refusal.{Refusal}
use Rattle.storage_layout.specs.Symbols.{symbols_of}
use Rattle.call_graph.specs.declared.graph.Graph.{Graph}
use Rattle.call_graph.specs.declared.refusal.Fault.{Fault}
use Rattle.call_graph.specs.Links.{link_of}
use Rattle.f77_meaning.specs.Modules.{Known, known_of}

-- a module's name, its text, and the line of its source where the text begins
pub record ModuleText : Type 0 where
  pub name : List ℕ
  pub text : List ℕ
  pub first : ℕ

-- refused at a line; what reading lines refuses has no keyword
abbrev pub lines_or : Result Lines (ℕ × ℕ) → Result Lines Refused
lines_or (Ok read) = Ok read
lines_or (Err at) = Err (record { line = at.0; code = at.1; keyword = [] })

-- the modules of a text: lines, then statements and structure
abbrev pub modules_of : List ℕ → Result (List ParsedTree) Refused
modules_of text = and_then (lines_or (reading text)) parse_of

-- a module that was read, with its symbols
pub record ReadModule : Type 0 where
  pub module_is : ParsedTree
  pub table : List SymbolTree

abbrev pub with_table : ParsedTree → Result (List SymbolTree) Refusal → Option ReadModule
with_table p (Ok t) = Some (record { module_is = p; table = t })
with_table p (Err r) = None

abbrev pub one_module : Result (List ParsedTree) Refused → Option ReadModule
one_module (Ok []) = None
one_module (Ok (p ∷ [])) = with_table p (symbols_of p)
one_module (Ok (p ∷ q ∷ ps)) = None
one_module (Err r) = None

-- the module that a text is, where it is just one
abbrev pub module_read : List ℕ → Option ReadModule
module_read text = one_module (modules_of text)

-- the text is the module of its name
pub record IsModule (t : ModuleText) : Type 0 where
  pub found : ReadModule
  pub is_read : module_read t.text ≡ Some found
  pub is_named : found.module_is.module_read.name ≡ t.name

abbrev pub AreModules : List ModuleText → Type 0
AreModules [] = Unit {0}
AreModules (t ∷ ts) = IsModule t × AreModules ts

-- the modules of a list of texts, in their order
abbrev pub modules_in : List ModuleText → List ReadModule
modules_in [] = []
modules_in (t ∷ ts) = option_to_list (module_read t.text) ++ modules_in ts

abbrev pub trees_in : List ModuleText → List ParsedTree
trees_in ts = map (λ m. m.module_is) (modules_in ts)

abbrev pub tables_in : List ModuleText → List (List SymbolTree)
tables_in ts = map (λ m. m.table) (modules_in ts)

abbrev pub names_in : List ModuleText → List (List ℕ)
names_in ts = map (λ t. t.name) ts

-- the links of the modules, or what is wrong with them
abbrev pub links_in : List ModuleText → Result Graph Fault
links_in ts = link_of (trees_in ts) (tables_in ts)

abbrev pub known_in : List ModuleText → List Known
known_in ts = known_of (trees_in ts) (tables_in ts)

-- no links
abbrev pub no_graph : Graph
no_graph = record { order = []; edges = []; blocks = []; untracked = [] }

abbrev pub graph_or_none : Result Graph Fault → Graph
graph_or_none (Ok g) = g
graph_or_none (Err f) = no_graph

-- the graph of texts that link, which is without modules where they do not
abbrev pub graph_of : List ModuleText → Graph
graph_of ts = graph_or_none (links_in ts)

-- the text of a name
abbrev pub text_of : List ModuleText → List ℕ → Option (List ℕ)
text_of [] x = None
text_of (t ∷ ts) x = if bytes_eq t.name x then Some t.text else text_of ts x

-- the same names and texts in the same order, at whatever lines they begin
abbrev pub SameTexts : List ModuleText → List ModuleText → Type 0
SameTexts [] [] = Unit {0}
SameTexts [] (u ∷ us) = ⊥
SameTexts (t ∷ ts) [] = ⊥
SameTexts (t ∷ ts) (u ∷ us) = (t.name ≡ u.name) × (t.text ≡ u.text) × SameTexts ts us
