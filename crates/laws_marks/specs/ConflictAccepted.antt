-- What is claimed of the iterations in a run of a program that is read.
use Rattle.std.specs.Prelude.{◌≡◌, ℕ, true, List, All}
use Rattle.f77_ast.specs.DeclTrees.{ParsedTree}
use Rattle.f77_ast.specs.Symbols.{SymbolTree}
use Rattle.f77_ast.specs.declared.variable.Variable.{Variable}
use Rattle.call_graph.specs.declared.graph.Graph.{Graph}
use Rattle.f77_meaning.specs.Modules.{Known, known_of}
use Rattle.loop_marker.specs.module_phases.RegionPhases.{all_regions}
use Rattle.loop_marker.specs.module_phases.InPhases.{ModuleIns, all_ins}
use Rattle.loop_marker.specs.module_phases.ScalarPhases.{analyses}
use Rattle.laws_programs.specs.Programs.{IsProgram}
use Rattle.laws_programs.specs.Storage.Programs.{IsModule}
use Rattle.loop_marker.specs.privatizer.Names.{may_copy}
use Rattle.laws_marks.specs.ConflictExecutions.{Execution, InEachExecution}
use Rattle.laws_marks.specs.ConflictClaims.{LoopsHold, IsSole}

-- of an execution in whatever module
abbrev pub AllLoopsHold : List Known → Graph → List ModuleIns → Execution → Type 0
AllLoopsHold ks g fs x = All (λ f. f.known.analysis.found.known.read.name ≡ x.spot.module_name → LoopsHold ks g f x) fs

-- so it is in every run of a program that is read, up to its first fault
abbrev pub ReadLoopsHold : Type 0
ReadLoopsHold = (ps : List ParsedTree) (sss : List (List SymbolTree)) (g : Graph) → IsProgram ps sss g → InEachExecution (known_of ps sss) g (AllLoopsHold (known_of ps sss) g (all_ins g (all_regions g (analyses (known_of ps sss) g))))

-- no other variable overlaps one of a module of such a program whose name allows copies
abbrev pub CopiesAreSole : Type 0
CopiesAreSole = (ps : List ParsedTree) (sss : List (List SymbolTree)) (g : Graph) → IsProgram ps sss g → (i : ℕ) (p : ParsedTree) (ss : List SymbolTree) → IsModule ps sss i p ss →
    (v : Variable) → may_copy p.module_read ss v ≡ true → IsSole ss v
