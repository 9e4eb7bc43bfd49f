-- What is claimed of the references of a program that is read.
use Rattle.std.specs.Prelude.{List}
use Rattle.f77_ast.specs.DeclTrees.{ParsedTree}
use Rattle.f77_ast.specs.Symbols.{SymbolTree}
use Rattle.call_graph.specs.declared.graph.Graph.{Graph}
use Rattle.f77_meaning.specs.Modules.{known_of}
use Rattle.f77_meaning.specs.Claimed.{InEveryRun}
use Rattle.bound_check.specs.loop_marker.module_phases.ScalarPhases.{analyses}
use Rattle.laws_programs.specs.Programs.{IsProgram}
use Rattle.laws_bounds.specs.Claims.{AllChecksHold}

-- in every run, up to its first fault, and at each arrival of a statement: a reference that is found safe by what holds there stays inside its
-- array where the statement evaluates it
abbrev pub ReadChecksHold : Type 0
ReadChecksHold = (ps : List ParsedTree) (sss : List (List SymbolTree)) (g : Graph) → IsProgram ps sss g → InEveryRun (known_of ps sss) g (AllChecksHold g (analyses (known_of ps sss) g))
