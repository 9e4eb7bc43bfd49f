-- Tables of symbols and graphs are made of the trees of modules, not of the lines at which they stand.
use Rattle.std.specs.Prelude.{◌≡◌, List, map, Ok}
use Rattle.f77_ast.specs.DeclTrees.{ModuleTree, ParsedTree}
use Rattle.f77_ast.specs.Symbols.{SymbolTree}
use Rattle.storage_layout.specs.Symbols.{symbols_of}
use Rattle.call_graph.specs.declared.graph.Graph.{Graph}
use Rattle.call_graph.specs.Links.{link_of}

abbrev pub tree_of : ParsedTree → ModuleTree
tree_of p = p.module_read

-- a module that is not refused has the same table wherever its statements stand
abbrev pub TablesIgnorePlaces : Type 0
TablesIgnorePlaces = (p q : ParsedTree) (table : List SymbolTree) → tree_of q ≡ tree_of p → symbols_of p ≡ Ok table → symbols_of q ≡ Ok table

-- modules that link have the same graph wherever their statements stand
abbrev pub GraphsIgnorePlaces : Type 0
GraphsIgnorePlaces = (ps qs : List ParsedTree) (tables : List (List SymbolTree)) (g : Graph) → map tree_of qs ≡ map tree_of ps → link_of ps tables ≡ Ok g → link_of qs tables ≡ Ok g
