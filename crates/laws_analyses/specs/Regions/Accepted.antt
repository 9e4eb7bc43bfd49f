-- What READ and WRITE regions claim of the executions in a run of a program that is read.
use Rattle.std.specs.Prelude.{◌≡◌, ℕ, List, [], ◌∷◌, All, if◌then◌else◌, bytes_eq}
use Rattle.f77_ast.specs.DeclTrees.{ParsedTree}
use Rattle.f77_ast.specs.declared.variable.Unit.{Unit as BlockUnit}
use Rattle.f77_ast.specs.declared.symbol.Place.TheVariants as place
use Rattle.f77_ast.specs.Symbols.{SymbolTree}
use Rattle.call_graph.specs.declared.graph.Graph.{Graph}
use Rattle.f77_meaning.specs.Modules.{Known, known_of}
use Rattle.f77_meaning.specs.Occurrences.{Occurrence}
use Rattle.f77_meaning.specs.Claimed.{InEveryRun}
use Rattle.in_out_regions.specs.array_regions.Calls.{Callees}
use Rattle.module_phases.specs.RegionPhases.{ModuleRegions, no_callees, with_callee, with_regions, all_regions}
use Rattle.laws_programs.specs.Programs.{IsProgram}
use Rattle.module_phases.specs.ScalarPhases.{scope_of, Analysis, analyses}
use Rattle.laws_analyses.specs.Regions.Claims.{RegionsHold}

-- ---- summaries of the modules of a program, callers before callees

-- of these
abbrev pub after : List BlockUnit → List Analysis → Callees
after untracked [] = no_callees
after untracked (a ∷ as') = with_callee (with_regions untracked (after untracked as') a) (after untracked as')

-- the modules behind the one of a name
abbrev pub behind : List Analysis → List ℕ → List Analysis
behind [] x = []
behind (a ∷ as') x = if bytes_eq a.found.known.read.name x then as' else behind as' x

-- the summaries that are known where the regions of the module of a name are made
abbrev pub summaries_of : Graph → List Analysis → List ℕ → Callees
summaries_of g as' x = after g.untracked (behind as' x)

-- ---- claims

-- of an execution of a statement, or of the entry, in whatever module
abbrev pub AllRegionsHold : List Known → Graph → List ModuleRegions → Occurrence → Type 0
AllRegionsHold ks g fs x = All (λ f. f.analysis.found.known.read.name ≡ x.spot.module_name → RegionsHold ks g (scope_of g.untracked f.analysis.found.known) f.regions x) fs

-- so it is in every run of a program that is read, up to its first fault
abbrev pub ReadRegionsHold : Type 0
ReadRegionsHold = (ps : List ParsedTree) (sss : List (List SymbolTree)) (g : Graph) → IsProgram ps sss g → InEveryRun (known_of ps sss) g (AllRegionsHold (known_of ps sss) g (all_regions g (analyses (known_of ps sss) g)))
