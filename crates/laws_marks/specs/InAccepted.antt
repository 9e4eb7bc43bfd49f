-- What IN regions claim of the executions in a run of a program that is read.
use Rattle.std.specs.Prelude.{◌≡◌, ℕ, List, [], ◌∷◌, All}
use Rattle.f77_ast.specs.DeclTrees.{ParsedTree}
use Rattle.f77_ast.specs.declared.variable.Unit.{Unit as BlockUnit}
use Rattle.f77_ast.specs.Symbols.{SymbolTree}
use Rattle.call_graph.specs.declared.graph.Graph.{Graph}
use Rattle.f77_meaning.specs.Modules.{Known, known_of}
use Rattle.f77_meaning.specs.Occurrences.{Occurrence}
use Rattle.f77_meaning.specs.Claimed.{InEveryRun}
use Rattle.in_out_regions.specs.array_regions.Calls.{Callees}
use Rattle.loop_marker.specs.module_phases.ScalarPhases.{scope_of, Analysis, analyses}
use Rattle.loop_marker.specs.module_phases.RegionPhases.{no_callees, with_regions, all_regions}
use Rattle.loop_marker.specs.module_phases.InPhases.{ModuleIns, with_callee, with_ins, all_ins}
use Rattle.laws_programs.specs.Programs.{IsProgram}
use Rattle.laws_analyses.specs.Regions.Accepted.{after as reads_after, behind}
use Rattle.laws_marks.specs.InClaims.{InRegionsHold}

-- ---- summaries of the modules of a program, callers before callees

-- the IN regions of these, each from READ and WRITE and the summaries of those behind it
abbrev pub after : List BlockUnit → List Analysis → Callees
after untracked [] = no_callees
after untracked (a ∷ as') = with_callee (with_ins untracked (after untracked as') (with_regions untracked (reads_after untracked as') a)) (after untracked as')

-- the summaries that are known where the IN regions of the module of a name are made
abbrev pub summaries_of : Graph → List Analysis → List ℕ → Callees
summaries_of g as' x = after g.untracked (behind as' x)

-- ---- claims

-- of an execution of a statement, or of the entry, in whatever module
abbrev pub AllInsHold : List Known → Graph → List ModuleIns → Occurrence → Type 0
AllInsHold ks g fs x = All (λ f. f.known.analysis.found.known.read.name ≡ x.spot.module_name → InRegionsHold ks g (scope_of g.untracked f.known.analysis.found.known) f.ins x) fs

-- so it is in every run of a program that is read, up to its first fault
abbrev pub ReadInsHold : Type 0
ReadInsHold = (ps : List ParsedTree) (sss : List (List SymbolTree)) (g : Graph) → IsProgram ps sss g → InEveryRun (known_of ps sss) g (AllInsHold (known_of ps sss) g (all_ins g (all_regions g (analyses (known_of ps sss) g))))
