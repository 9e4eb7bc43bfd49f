-- What is found of the modules of a program, and the lines that show it.
use Rattle.std.specs.Prelude.{ℕ, Bool, false, not, ◌&&◌, List, [], Option, Some, None}
use Rattle.f77_ast.specs.DeclTrees.{ModuleTree}
use Rattle.f77_printer.specs.declared.added.Added.{Added}
use Rattle.call_graph.specs.declared.graph.Graph.{Graph}
use Rattle.f77_meaning.specs.Modules.{known_of}
use Rattle.pipsmake_base.specs.loop_marker.Results.{ModuleResults}
use Rattle.pipsmake_base.specs.result_lines.ReductionLines.{reduced_lines_of}
use Rattle.pipsmake_base.specs.result_lines.declared.show.Show.{Show}
use Rattle.pipsmake_base.specs.pipsmake_meaning.ResultEntries.{results_of_modules, results_for}
use Rattle.pipsmake_base.specs.pipsmake_meaning.Definitions.{printed_of}
use Rattle.laws_bounds.specs.laws_marks.Said.{reductions_of}
use Rattle.laws_bounds.specs.Said.{checks_said}
use Rattle.pips_top.specs.Program.{ProgramTree}
use Rattle.pips_top.specs.declared.wanted.Wanted.{Wanted}

-- the analyses of all modules: of tracked cells, the READ and WRITE, IN and OUT regions, and the marks of loops
abbrev pub results_of_program : ProgramTree → List ModuleResults
results_of_program p = results_of_modules (known_of p.modules p.tables) p.graph

-- without reduction variables and subscript checks
abbrev pub alone : Show → Wanted
alone s = record { show = s; reductions = false; bounds = false }

-- whether it is that
abbrev pub is_alone : Wanted → Bool
is_alone w = not w.reductions && not w.bounds

-- the lines on the references of a module, where they are wanted
abbrev pub checks_of : Bool → Graph → ModuleResults → List Added
checks_of bounds g f = checks_said bounds g f.known f.transformers f.preconditions

-- the lines that are wanted beside a module
abbrev pub lines_wanted : Wanted → Graph → ModuleResults → List Added
lines_wanted w g f = reduced_lines_of w.show f.known (printed_of f) (reductions_of w.reductions g f) (checks_of w.bounds g f)

abbrev pub lines_with : Wanted → Graph → Option ModuleResults → List Added
lines_with w g None = []
lines_with w g (Some f) = lines_wanted w g f

-- the lines that are added to the module of a name
abbrev pub lines_for : Wanted → Graph → List ModuleResults → List ℕ → List Added
lines_for w g fs x = lines_with w g (results_for fs x)

abbrev pub lines_found : Wanted → Graph → List ModuleResults → ModuleTree → List Added
lines_found w g fs m = lines_for w g fs m.name
