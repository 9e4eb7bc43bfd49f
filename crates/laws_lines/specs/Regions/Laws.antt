-- The regions of a program: which variables they have.
use Rattle.std.specs.Prelude.{List, All}
use Rattle.std.specs.List.{AllByRecursion}
use Rattle.f77_ast.specs.DeclTrees.{ParsedTree}
use Rattle.f77_ast.specs.declared.variable.Unit.{Unit as BlockUnit}
use Rattle.f77_ast.specs.Symbols.{SymbolTree}
use Rattle.f77_ast.specs.declared.results.At.{At}
use Rattle.f77_ast.specs.declared.results.Results.{Results}
use Rattle.call_graph.specs.declared.graph.Graph.{Graph}
use Rattle.f77_meaning.specs.Modules.{Known, known_of}
use Rattle.in_out_regions.specs.region_sets.declared.region.Region.{Region}
use Rattle.loop_marker.specs.module_phases.RegionPhases.{ModuleRegions, all_regions}
use Rattle.loop_marker.specs.module_phases.ScalarPhases.{analyses}
use Rattle.laws_programs.specs.Programs.{AreTables}
use Rattle.laws_lines.specs.Variables.{IsOver}
use Rattle.laws_lines.specs.Laws.{IsTracked}
use Rattle.laws_lines.specs.Regions.Places.{IsPlaceOf, AreFew}

-- each has one to four systems, each on subscripts and tracked cells of the module
abbrev pub AreOverPlaces : List BlockUnit → Known → List Region → Type 0
AreOverPlaces untracked k rs = AllByRecursion (λ (r : Region). AreFew (IsOver (IsPlaceOf (IsTracked untracked k))) r.pieces) rs

-- of the set of each statement, and of that which callers see
pub record SetsAreOver (untracked : List BlockUnit) (k : Known) (sets : Results (List Region)) : Type 0 where
  pub at : All (λ (x : At (List Region)). AreOverPlaces untracked k x.value) sets.at
  pub summary : AreOverPlaces untracked k sets.summary

abbrev pub RegionsAreOver : List BlockUnit → ModuleRegions → Type 0
RegionsAreOver untracked f = SetsAreOver untracked f.analysis.found.known f.regions

-- of modules with their tables, whatever their links are
abbrev pub RegionsAreOverPlaces : Type 0
RegionsAreOverPlaces = (ps : List ParsedTree) (sss : List (List SymbolTree)) (g : Graph) → AreTables ps sss → All (RegionsAreOver g.untracked) (all_regions g (analyses (known_of ps sss) g))
