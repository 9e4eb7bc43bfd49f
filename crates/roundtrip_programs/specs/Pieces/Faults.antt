-- What is wrong with links is said of modules, wherever their statements stand.
use Rattle.std.specs.Prelude.{◌≡◌, List, map, Err}
use Rattle.f77_ast.specs.DeclTrees.{ParsedTree}
use Rattle.f77_ast.specs.Symbols.{SymbolTree}
use Rattle.call_graph.specs.declared.refusal.Fault.{Fault}
use Rattle.call_graph.specs.declared.refusal.Fault.TheVariants.{NoMain, At}
use Rattle.call_graph.specs.Links.{link_of}
use Rattle.roundtrip_programs.specs.Laws.{tree_of}

-- a fault without its line: the module and the cause
abbrev pub lineless : Fault → Fault
lineless NoMain = NoMain
lineless (At place line cause) = At place 0 cause

pub record SameFault (ps : List ParsedTree) (tables : List (List SymbolTree)) (f : Fault) : Type 0 where
  pub found : Fault
  pub refused : link_of ps tables ≡ Err found
  pub same : lineless found ≡ lineless f

-- modules that do not link are refused for the same module and the same cause wherever their statements stand
abbrev pub FaultsIgnorePlaces : Type 0
FaultsIgnorePlaces = (ps qs : List ParsedTree) (tables : List (List SymbolTree)) (f : Fault) → map tree_of qs ≡ map tree_of ps → link_of ps tables ≡ Err f → SameFault qs tables f
