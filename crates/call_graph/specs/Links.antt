-- The links of a program.
use Rattle.std.specs.Prelude.{ℕ, List, Option, Result, Ok, Err}
use Rattle.f77_ast.specs.DeclTrees.{ParsedTree}
use Rattle.f77_ast.specs.Symbols.{SymbolTree}
use Rattle.call_graph.specs.declared.calls.Called.{Called}
use Rattle.call_graph.specs.declared.graph.Graph.{Graph}
use Rattle.call_graph.specs.declared.refusal.Fault.{Fault}
use Rattle.call_graph.specs.Faults.{or_fault, unless}
use Rattle.call_graph.specs.Modules.{too_many, names_of, name_twice, main_twice, no_main}
use Rattle.call_graph.specs.Calls.{all_calls}
use Rattle.call_graph.specs.Callees.{unfit_from, all_places, all_edges}
use Rattle.call_graph.specs.Recursion.{reaches, cyclic_from}
use Rattle.call_graph.specs.Order.{order_of, names_at}
use Rattle.call_graph.specs.Blocks.{blocks_of}
use Rattle.tracked_cells.specs.Untracked.{untracked_of}

-- the CALLs of each module of a program, with their actuals
abbrev pub program_calls : List ParsedTree → List (List SymbolTree) → List (List Called)
program_calls ps sss = all_calls ps sss

-- the places of the modules that each module calls
abbrev pub callees_of : List ParsedTree → List (List SymbolTree) → List (List ℕ)
callees_of ps sss = all_places (names_of ps) (program_calls ps sss)

-- the first CALL that does not fit what it calls
abbrev pub unfit : List ParsedTree → List (List SymbolTree) → Option Fault
unfit ps sss = unfit_from 0 ps (program_calls ps sss) (names_of ps) ps sss

-- the first CALL on a cycle of calls
abbrev pub cyclic : List ParsedTree → List (List SymbolTree) → Option Fault
cyclic ps sss = cyclic_from (reaches (callees_of ps sss)) 0 ps (program_calls ps sss) (names_of ps)

-- a graph from the names of the modules, their CALLs, and the places of what they call
abbrev pub graph_from : List ParsedTree → List (List SymbolTree) → List (List ℕ) → List (List Called) → List (List ℕ) → Graph
graph_from ps sss names calls callees = record {
  order = names_at (order_of callees) names;
  edges = all_edges names calls;
  blocks = blocks_of sss;
  untracked = untracked_of ps sss;
}

abbrev pub graph_of : List ParsedTree → List (List SymbolTree) → Graph
graph_of ps sss = graph_from ps sss (names_of ps) (program_calls ps sss) (callees_of ps sss)

-- what is wrong with the modules before their CALLs are looked at: a name twice, two main programs, none
abbrev pub module_fault : List ParsedTree → Option Fault
module_fault ps = or_fault (name_twice ps) (or_fault (main_twice ps) (no_main ps))

-- the graph, unless a CALL lies on a cycle of calls
abbrev pub acyclic_of : List ParsedTree → List (List SymbolTree) → Result Graph Fault
acyclic_of ps sss = unless (cyclic ps sss) (Ok (graph_of ps sss))

-- that, unless a CALL does not fit what it calls
abbrev pub joined_of : List ParsedTree → List (List SymbolTree) → Result Graph Fault
joined_of ps sss = unless (unfit ps sss) (acyclic_of ps sss)

-- that, unless a name stands twice, or there are two main programs or none
abbrev pub named_of : List ParsedTree → List (List SymbolTree) → Result Graph Fault
named_of ps sss = unless (module_fault ps) (joined_of ps sss)

-- the graph of modules with their tables, or the first of what is wrong, too many modules before all
abbrev pub link_of : List ParsedTree → List (List SymbolTree) → Result Graph Fault
link_of ps sss = unless (too_many ps) (named_of ps sss)
