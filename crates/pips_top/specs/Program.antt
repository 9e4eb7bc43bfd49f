-- What reading a text gives, as plain data.
use Rattle.std.specs.Prelude.{List, map}
use Rattle.f77_ast.specs.DeclTrees.{ParsedTree}
use Rattle.f77_ast.specs.PlainDecl.{parsed_tree}
use Rattle.f77_ast.specs.Symbols.{SymbolTree, symbol_tree}
use Rattle.call_graph.specs.declared.graph.Graph.{Graph}
use Rattle.pips_top.specs.declared.program.Program.{Program}

-- the modules of a text, the symbols of each, and their links
pub record ProgramTree : Type 0 where
  pub modules : List ParsedTree
  pub tables : List (List SymbolTree)
  pub graph : Graph

abbrev pub program_tree : Program → ProgramTree
program_tree p = record { modules = map parsed_tree p.modules; tables = map (map symbol_tree) p.tables; graph = p.graph }
