-- The results of the modules of a program, and those of one module.
use Rattle.std.specs.Prelude.{ℕ, List, [], ◌∷◌, Option, Some, None, bytes_eq, if◌then◌else◌}
use Rattle.f77_meaning.specs.Modules.{Known}
use Rattle.call_graph.specs.declared.graph.Graph.{Graph}
use Rattle.loop_marker.specs.module_phases.ScalarPhases.{analyses}
use Rattle.loop_marker.specs.module_phases.RegionPhases.{all_regions}
use Rattle.loop_marker.specs.module_phases.InPhases.{all_ins}
use Rattle.loop_marker.specs.module_phases.OutPhases.{all_outs}
use Rattle.loop_marker.specs.Results.{ModuleResults}
use Rattle.loop_marker.specs.Phases.{all_marks}

-- callees before callers
abbrev pub results_of_modules : List Known → Graph → List ModuleResults
results_of_modules ks g = all_marks g (all_outs g (all_ins g (all_regions g (analyses ks g))))

abbrev pub name_in : ModuleResults → List ℕ
name_in r = r.known.read.name

-- those of the module of a name
abbrev pub results_for : List ModuleResults → List ℕ → Option ModuleResults
results_for [] x = None
results_for (r ∷ rs) x = if bytes_eq (name_in r) x then Some r else results_for rs x
