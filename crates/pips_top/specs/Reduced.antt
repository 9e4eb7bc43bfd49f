-- The lines of a module whose loops may have reduction variables and whose references may be judged, from what is known of it.
use Rattle.std.specs.Prelude.{Bool, if◌then◌else◌, List, []}
use Rattle.f77_ast.specs.PlainStmt.{stmt_trees}
use Rattle.f77_ast.specs.declared.marks.Mark.{Mark}
use Rattle.f77_ast.specs.declared.results.At.{At}
use Rattle.f77_printer.specs.declared.added.Added.{Added}
use Rattle.pipsmake_base.specs.module_phases.ScalarViews.{known_in}
use Rattle.pipsmake_base.specs.loop_marker.Known.{known_module}
use Rattle.pipsmake_base.specs.loop_marker.dependence_test.declared.analysis.Analysis.{Analysis}
use Rattle.pipsmake_base.specs.result_lines.Lines.{PrintedResults}
use Rattle.pipsmake_base.specs.result_lines.ReductionLines.{reduced_lines_of}
use Rattle.pipsmake_base.specs.result_lines.declared.reduction.Reduction.{Reduction}
use Rattle.laws_bounds.specs.bound_check.CheckLines.{check_lines_of}
use Rattle.laws_bounds.specs.bound_check.Checked.{checked_of}
use Rattle.laws_bounds.specs.bound_check.Views.{known_in as judged_by}
use Rattle.reductions.specs.Reduced.{reduced_of}
use Rattle.pips_top.specs.declared.wanted.Wanted.{Wanted}

abbrev pub said_of : Analysis → List (At Mark) → PrintedResults
said_of a ms = record { transformers = a.transformers.now; preconditions = a.preconditions.now; regions = a.regions.now; ins = a.ins.now; outs = a.outs.now; marks = ms }

-- the loops with reduction variables, where they are asked for
abbrev pub reductions_asked : Bool → Analysis → List (At Mark) → List (At Reduction)
reductions_asked asked a ms = if asked then reduced_of (known_module a) a.view.now.graph.now.order ms else []

-- the lines on references, where they are asked for
abbrev pub checks_asked : Bool → Analysis → List Added
checks_asked asked a = if asked then check_lines_of (checked_of (judged_by a) (stmt_trees a.view.now.«module».now.body)) else []

abbrev pub lines_reduced : Wanted → Analysis → List (At Mark) → List Added
lines_reduced w a ms = reduced_lines_of w.show (known_in a.view.now) (said_of a ms) (reductions_asked w.reductions a ms) (checks_asked w.bounds a)
