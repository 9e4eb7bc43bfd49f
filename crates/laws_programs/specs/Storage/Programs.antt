-- Modules that were read, with the tables of their symbols, and the graph of their links.
use Rattle.std.specs.Prelude.{◌≡◌, ℕ, true, List, length, slice_get, Some, Ok}
use Rattle.f77_ast.specs.DeclTrees.{ParsedTree}
use Rattle.f77_ast.specs.Symbols.{SymbolTree}
use Rattle.f77_ast.specs.Shared.{symbol_at}
use Rattle.tracked_cells.specs.Equivalences.{equivalenced_names}
use Rattle.tracked_cells.specs.Tracked.{is_tracked}
use Rattle.call_graph.specs.declared.graph.Graph.{Graph}
use Rattle.call_graph.specs.Links.{link_of}
use Rattle.f77_meaning.specs.Modules.{Known}

-- modules, with a table for each, that link
pub record IsLinked (ps : List ParsedTree) (sss : List (List SymbolTree)) (g : Graph) : Type 0 where
  pub many : length ps ≡ length sss
  pub links : link_of ps sss ≡ Ok g

-- a module with its table, by its place
pub record IsModule (ps : List ParsedTree) (sss : List (List SymbolTree)) (i : ℕ) (p : ParsedTree) (ss : List SymbolTree) : Type 0 where
  pub parsed : slice_get ps i ≡ Some p
  pub table : slice_get sss i ≡ Some ss

-- as runs see it
abbrev pub known : ParsedTree → List SymbolTree → Known
known p ss = record { read = p.module_read; symbols = ss }

-- a tracked cell of a module, by the number of its symbol
pub record IsCell (g : Graph) (p : ParsedTree) (ss : List SymbolTree) (n : ℕ) (s : SymbolTree) : Type 0 where
  pub is_symbol : symbol_at ss n ≡ Some s
  pub tracked : is_tracked (equivalenced_names p.module_read) ss g.untracked s ≡ true
