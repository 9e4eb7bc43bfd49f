-- What is written of a program is read, with its directives, as the same program with its parallel loops marked.
use Rattle.std.specs.Prelude.{◌≡◌, ℕ, List, [], map, Option, Some, None, option_map, Ok}
use Rattle.f77_ast.specs.DeclTrees.{ParsedTree}
use Rattle.f77_ast.specs.Programs.{Program}
use Rattle.f77_meaning.specs.Modules.{known_of}
use Rattle.f77_meaning.specs.Linked.{program_of}
use Rattle.f77_ast.specs.declared.results.At.{At}
use Rattle.call_graph.specs.declared.graph.Graph.{Graph}
use Rattle.pipsmake_base.specs.loop_marker.Results.{ModuleResults}
use Rattle.laws_interleavings.specs.Accumulating.{Reduction, Directive}
use Rattle.laws_interleavings.specs.MarkedPrograms.{Directives}
use Rattle.laws_bounds.specs.laws_marks.Names.{op_meant}
use Rattle.laws_bounds.specs.laws_marks.Said.{reductions_of}
use Rattle.laws_bounds.specs.laws_marks.Schedules.{DoesAs}
use Rattle.laws_lines.specs.Marks.Directives.{Clause, Clauses}
use Rattle.laws_lines.specs.Marks.Marked.{ReadMarked}
use Rattle.laws_lines.specs.Marks.MarkedLoops.{parallel_loops, directives_of, directives_found}
use Rattle.pips_top.specs.Program.{ProgramTree}
use Rattle.pips_top.specs.ReadBack.{SameProgram}
use Rattle.pips_top.specs.Reading.{reading}
use Rattle.pipsmake_base.specs.pipsmake_meaning.ResultEntries.{results_for}
use Rattle.pips_top.specs.Shown.{results_of_program}
use Rattle.pips_top.specs.Written.{written}
use Rattle.pips_top.specs.declared.wanted.Wanted.{Wanted}

abbrev pub loops_of : Wanted → Graph → Option ModuleResults → List (At Clauses)
loops_of show g None = []
loops_of show g (Some f) = parallel_loops (reductions_of show.reductions g f) f

-- of each module its parallel loops: the numbers of their DO statements, each with the names of its private variables and its reduction variables
abbrev pub loops_found : Wanted → ProgramTree → List (List (At Clauses))
loops_found show p = map (λ (m : ParsedTree). loops_of show p.graph (results_for (results_of_program p) m.module_read.name)) p.modules

-- the text is not refused, and is the same program
pub record ReadsMarked (show : Wanted) (p : ProgramTree) : Type 0 where
  pub again : ProgramTree
  pub read : reading (written show p) ≡ Ok again
  pub same : SameProgram p again
  -- each directive of the text stands directly before a DO, and these are just the parallel loops, each with its clauses
  pub marked : ReadMarked (written show p) again.modules (loops_found show p)
  -- so a DO, by the name of its module and its number, has the directive that was found, or none
  pub directives : directives_of again.modules (loops_found show p) ≡ directives_found (reductions_of show.reductions p.graph) (results_of_program p)

-- ---- runs

-- what a directive that is read says of runs
abbrev pub clause_meant : Clause → Reduction
clause_meant c = record { name = c.name; op = op_meant c.op }

abbrev pub directive_meant : Clauses → Directive
directive_meant c = record { private = c.private; reductions = map clause_meant c.reductions }

abbrev pub directives_meant : (List ℕ → ℕ → Option Clauses) → Directives
directives_meant read x n = option_map directive_meant (read x n)

-- a program, as it is executed
abbrev pub executed : ProgramTree → Program
executed p = program_of (known_of p.modules p.tables) p.graph

-- what is written, read so, does as the program does: in each run that comes to its end without a fault, its marked loops interleaved by whatever schedule, and the copies of
-- their reduction variables combined in whatever order
abbrev pub RunsInterleaved : (show : Wanted) (p : ProgramTree) → ReadsMarked show p → Type 0
RunsInterleaved show p m = DoesAs (executed p) (executed m.again) (directives_meant (directives_of m.again.modules (loops_found show p)))
