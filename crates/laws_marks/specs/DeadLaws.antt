-- What is claimed of private variables, and of marked loops, in the runs of a program that is read that no fault ends.
use Rattle.std.specs.Prelude.{◌≡◌, List, All}
use Rattle.f77_ast.specs.DeclTrees.{ParsedTree}
use Rattle.f77_ast.specs.Symbols.{SymbolTree}
use Rattle.call_graph.specs.declared.graph.Graph.{Graph}
use Rattle.f77_meaning.specs.Modules.{Known, known_of}
use Rattle.f77_meaning.specs.Occurrences.{Occurrence}
use Rattle.f77_meaning.specs.Claimed.{InConformingRuns}
use Rattle.loop_marker.specs.module_phases.ScalarPhases.{analyses}
use Rattle.loop_marker.specs.module_phases.RegionPhases.{all_regions}
use Rattle.loop_marker.specs.module_phases.InPhases.{all_ins}
use Rattle.loop_marker.specs.module_phases.OutPhases.{ModuleOuts, all_outs}
use Rattle.loop_marker.specs.Results.{ModuleResults}
use Rattle.loop_marker.specs.Phases.{all_marks}
use Rattle.laws_programs.specs.Programs.{IsProgram}
use Rattle.laws_marks.specs.ConflictExecutions.{Execution, InEachExecution}
use Rattle.laws_marks.specs.Dead.{CopiesLieInOwn, PrivatesAreDead, MarkIsDead}
use Rattle.laws_marks.specs.Units.{ModuleUnitsStand}
use Rattle.laws_marks.specs.Named.{ModuleNamesStand, MarkedLoopIsDead}

-- the OUT regions of the modules of a program
abbrev pub outs_of : List ParsedTree → List (List SymbolTree) → Graph → List ModuleOuts
outs_of ps sss g = all_outs g (all_ins g (all_regions g (analyses (known_of ps sss) g)))

-- ---- of an execution in whatever module

abbrev pub AllUnitsStand : List Known → Graph → List ModuleOuts → Execution → Type 0
AllUnitsStand ks g fs x = All (λ f. f.known.known.analysis.found.known.read.name ≡ x.spot.module_name → ModuleUnitsStand ks g f.known x) fs

abbrev pub AllCopiesLieInOwn : List Known → Graph → List ModuleOuts → Occurrence → Type 0
AllCopiesLieInOwn ks g fs x = All (λ f. f.known.known.analysis.found.known.read.name ≡ x.spot.module_name → CopiesLieInOwn ks g f x) fs

abbrev pub AllPrivatesAreDead : List Known → Graph → List ModuleOuts → Occurrence → Type 0
AllPrivatesAreDead ks g fs x = All (λ f. f.known.known.analysis.found.known.read.name ≡ x.spot.module_name → PrivatesAreDead ks g f x) fs

abbrev pub AllMarksAreDead : List Known → Graph → List ModuleResults → Occurrence → Type 0
AllMarksAreDead ks g fs x = All (λ f. f.known.read.name ≡ x.spot.module_name → MarkIsDead ks g f x) fs

abbrev pub AllNamesStand : List Known → Graph → List ModuleResults → Execution → Type 0
AllNamesStand ks g fs x = All (λ f. f.known.read.name ≡ x.spot.module_name → ModuleNamesStand ks g f x) fs

abbrev pub AllMarkedLoopsAreDead : List Known → Graph → List ModuleResults → Occurrence → Type 0
AllMarkedLoopsAreDead ks g fs x = All (λ f. f.known.read.name ≡ x.spot.module_name → MarkedLoopIsDead ks g f x) fs

-- ---- in every run of a program that is read

abbrev pub ReadUnitsStand : Type 0
ReadUnitsStand = (ps : List ParsedTree) (sss : List (List SymbolTree)) (g : Graph) → IsProgram ps sss g → InEachExecution (known_of ps sss) g (AllUnitsStand (known_of ps sss) g (outs_of ps sss g))

abbrev pub ReadNamesStand : Type 0
ReadNamesStand = (ps : List ParsedTree) (sss : List (List SymbolTree)) (g : Graph) → IsProgram ps sss g → InEachExecution (known_of ps sss) g (AllNamesStand (known_of ps sss) g (all_marks g (outs_of ps sss g)))

-- and in each that no fault ends
abbrev pub ReadCopiesLieInOwn : Type 0
ReadCopiesLieInOwn = (ps : List ParsedTree) (sss : List (List SymbolTree)) (g : Graph) → IsProgram ps sss g → InConformingRuns (known_of ps sss) g (AllCopiesLieInOwn (known_of ps sss) g (outs_of ps sss g))

abbrev pub ReadPrivatesAreDead : Type 0
ReadPrivatesAreDead = (ps : List ParsedTree) (sss : List (List SymbolTree)) (g : Graph) → IsProgram ps sss g → InConformingRuns (known_of ps sss) g (AllPrivatesAreDead (known_of ps sss) g (outs_of ps sss g))

abbrev pub ReadMarksAreDead : Type 0
ReadMarksAreDead = (ps : List ParsedTree) (sss : List (List SymbolTree)) (g : Graph) → IsProgram ps sss g → InConformingRuns (known_of ps sss) g (AllMarksAreDead (known_of ps sss) g (all_marks g (outs_of ps sss g)))

abbrev pub ReadMarkedLoopsAreDead : Type 0
ReadMarkedLoopsAreDead = (ps : List ParsedTree) (sss : List (List SymbolTree)) (g : Graph) → IsProgram ps sss g → InConformingRuns (known_of ps sss) g (AllMarkedLoopsAreDead (known_of ps sss) g (all_marks g (outs_of ps sss g)))
