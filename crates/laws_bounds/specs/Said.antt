-- The lines on the references of a module, by what is known of it.
use Rattle.std.specs.Prelude.{Bool, true, false, List, []}
use Rattle.affine_systems.specs.declared.row.System.{System}
use Rattle.f77_ast.specs.declared.results.Results.{Results}
use Rattle.f77_printer.specs.declared.added.Added.{Added}
use Rattle.call_graph.specs.declared.graph.Graph.{Graph}
use Rattle.f77_meaning.specs.Modules.{Known}
use Rattle.preconditions.specs.transformer_algebra.declared.transformer.Transformer.{Transformer}
use Rattle.in_out_regions.specs.call_equations.Sides.{changed_cells}
use Rattle.bound_check.specs.loop_marker.module_phases.ScalarPhases.{scope_of}
use Rattle.bound_check.specs.Checked.{Knowledge, checked_of}
use Rattle.bound_check.specs.CheckLines.{check_lines_of}

-- by which its references are judged: its transformers and its preconditions
abbrev pub knowledge_by : Graph → Known → Results Transformer → Results System → Knowledge
knowledge_by g k own holds = record { scope = scope_of g.untracked k; changed = changed_cells own.at; preconditions = holds.at }

-- where they are asked for
abbrev pub checks_said : Bool → Graph → Known → Results Transformer → Results System → List Added
checks_said false g k own holds = []
checks_said true g k own holds = check_lines_of (checked_of (knowledge_by g k own holds) k.read.body)
