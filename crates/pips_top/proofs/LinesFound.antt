-- The lines of a module, part by part.
use Rattle.std.specs.Prelude.{Bool, List, ◌++◌}
use Rattle.f77_printer.specs.declared.added.Added.{Added}
use Rattle.f77_ast.specs.declared.results.Results.{Results}
use Rattle.f77_meaning.specs.Modules.{Known}
use Rattle.pipsmake_base.specs.module_phases.ScalarPhases.{Analysis}
use Rattle.call_graph.specs.declared.graph.Graph.{Graph}
use Rattle.in_out_regions.specs.region_sets.declared.region.Region.{Region}
use Rattle.pipsmake_base.specs.module_phases.OutPhases.{ModuleOuts}
use Rattle.pipsmake_base.specs.loop_marker.Results.{ModuleResults}
use Rattle.pipsmake_base.specs.loop_marker.Phases.{analysis_in, known_in}
use Rattle.pipsmake_base.specs.result_lines.Lines.{scalar_lines_of, region_lines_of}
use Rattle.pipsmake_base.specs.result_lines.ReductionLines.{loop_lines_of}
use Rattle.laws_bounds.specs.laws_marks.Said.{reductions_of}

abbrev pub scalar_lines_found : Analysis → List Added
scalar_lines_found a = scalar_lines_of a.found.known a.found.own a.holds

abbrev pub region_lines_found : Known → Results (List Region) → List Added
region_lines_found k sets = region_lines_of k sets

abbrev pub claims_found : ModuleOuts → List Added
claims_found f = scalar_lines_found (analysis_in f) ++ (region_lines_found (known_in f) f.known.known.regions ++ (region_lines_found (known_in f) f.known.ins ++ region_lines_found (known_in f) f.outs))

-- with reduction variables, or without
abbrev pub loop_lines_found : Bool → Graph → Bool → ModuleResults → List Added
loop_lines_found reductions g why f = loop_lines_of f.known why (reductions_of reductions g f) f.marks
