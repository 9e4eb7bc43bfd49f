-- What OUT regions claim of the executions in a run of a program that is read.
use Rattle.std.specs.Prelude.{◌≡◌, ℕ, List, [], ◌∷◌, ◌++◌, All, bytes_eq, if◌then◌else◌}
use Rattle.f77_ast.specs.DeclTrees.{ParsedTree}
use Rattle.f77_ast.specs.Symbols.{SymbolTree}
use Rattle.call_graph.specs.declared.graph.Graph.{Graph}
use Rattle.f77_meaning.specs.Modules.{Known, known_of}
use Rattle.f77_meaning.specs.Occurrences.{Occurrence}
use Rattle.f77_meaning.specs.Claimed.{InConformingRuns}
use Rattle.loop_marker.specs.module_phases.ScalarPhases.{scope_of, Analysis, analyses}
use Rattle.in_out_regions.specs.region_sets.declared.region.Region.{Region}
use Rattle.loop_marker.specs.module_phases.RegionPhases.{with_regions, all_regions}
use Rattle.loop_marker.specs.module_phases.InPhases.{with_ins, all_ins}
use Rattle.loop_marker.specs.module_phases.OutPhases.{ModuleOuts, sites_of, used_after, with_outs, all_outs}
use Rattle.laws_programs.specs.Programs.{IsProgram}
use Rattle.laws_analyses.specs.Regions.Accepted.{after as reads_after}
use Rattle.laws_marks.specs.InAccepted.{after}
use Rattle.laws_marks.specs.OutClaims.{OutRegionsHold}

-- ---- what may be read after the modules of a program, callers before callees

-- after the module of a name, which stands behind those that are done
abbrev pub used_run : Graph → List ModuleOuts → List Analysis → List ℕ → List Region
used_run g done [] x = []
used_run g done (a ∷ as') x =
    let name = a.found.known.read.name in
    let f = with_outs g (sites_of g.untracked done name) (with_ins g.untracked (after g.untracked as') (with_regions g.untracked (reads_after g.untracked as') a)) in
    if bytes_eq name x then used_after g a.found.known (sites_of g.untracked done x) else used_run g (done ++ f ∷ []) as' x

abbrev pub used_for : Graph → List Analysis → List ℕ → List Region
used_for g as' x = used_run g [] as' x

-- ---- claims

-- of an execution of a statement, or of the entry, in whatever module
abbrev pub AllOutsHold : List Known → Graph → List ModuleOuts → Occurrence → Type 0
AllOutsHold ks g fs x = All (λ f. f.known.known.analysis.found.known.read.name ≡ x.spot.module_name → OutRegionsHold ks g (scope_of g.untracked f.known.known.analysis.found.known) f.outs x) fs

-- so it is in every run of a program that is read, unless a fault ends it. Before a fault it need not be: a local that a second call reads has no value
-- there, though the first wrote it
abbrev pub ReadOutsHold : Type 0
ReadOutsHold =
    (ps : List ParsedTree) (sss : List (List SymbolTree)) (g : Graph) → IsProgram ps sss g → InConformingRuns (known_of ps sss) g (AllOutsHold (known_of ps sss) g (all_outs g (all_ins g (all_regions g (analyses (known_of ps sss) g)))))
