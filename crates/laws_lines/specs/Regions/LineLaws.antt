-- What is written of the regions of a program is read as what was found.
use Rattle.std.specs.Prelude.{List, All}
use Rattle.std.specs.List.{AllByRecursion}
use Rattle.f77_ast.specs.DeclTrees.{ParsedTree}
use Rattle.f77_printer.specs.declared.added.Added.{Added}
use Rattle.f77_ast.specs.Symbols.{SymbolTree}
use Rattle.f77_ast.specs.declared.results.Results.{Results}
use Rattle.call_graph.specs.declared.graph.Graph.{Graph}
use Rattle.f77_meaning.specs.Modules.{Known, known_of, symbol_names}
use Rattle.loop_marker.specs.module_phases.ScalarPhases.{analyses}
use Rattle.loop_marker.specs.module_phases.RegionPhases.{ModuleRegions, all_regions}
use Rattle.in_out_regions.specs.region_sets.declared.region.Region.{Region}
use Rattle.result_lines.specs.RegionLines.{region_lines_of}
use Rattle.laws_programs.specs.roundtrip_programs.Texts.Texts.{IsPassedOver}
use Rattle.laws_programs.specs.roundtrip_programs.Lines.{IsShown}
use Rattle.laws_lines.specs.RegionTexts.Printed.{IsPlain}
use Rattle.laws_lines.specs.RegionTexts.Added.{AreReadable}
use Rattle.laws_programs.specs.Programs.{AreTables}
use Rattle.laws_lines.specs.NameLaws.{AreWords}
use Rattle.laws_lines.specs.Regions.Names.{AreNamed}
use Rattle.laws_lines.specs.Regions.Lines.{AreRegionLines}

-- what is written of the sets of a module
abbrev pub lines_in : Known → Results (List Region) → List Added
lines_in k sets = region_lines_of k.read.main k.read.body (symbol_names k.symbols) sets

-- each region is of a symbol, a block or a saved local, and its systems name only symbols and subscripts, in order; names are of letters, digits and `_`
abbrev pub RegionsAreReadable : Type 0
RegionsAreReadable = (ps : List ParsedTree) (sss : List (List SymbolTree)) (g : Graph) → AreTables ps sss → AreNamed IsPlain (known_of ps sss) →
    All (λ (f : ModuleRegions). AreReadable (symbol_names f.analysis.found.known.symbols) f.regions) (all_regions g (analyses (known_of ps sss) g))

-- the lines that are written of the sets of a module
abbrev pub SetLinesMean : Known → Results (List Region) → Type 0
SetLinesMean k sets = AreRegionLines k sets (lines_in k sets)

abbrev pub RegionLinesMean : ModuleRegions → Type 0
RegionLinesMean f = SetLinesMean f.analysis.found.known f.regions

-- of modules with their tables, whose names are words
abbrev pub RegionLinesMeanRegions : Type 0
RegionLinesMeanRegions = (ps : List ParsedTree) (sss : List (List SymbolTree)) (g : Graph) → AreTables ps sss → All AreWords sss → AreNamed IsPlain (known_of ps sss) →
    All RegionLinesMean (all_regions g (analyses (known_of ps sss) g))

-- each such line is a comment line that reading drops, where names are of printable ASCII
abbrev pub SetLinesPass : Known → Results (List Region) → Type 0
SetLinesPass k sets = AllByRecursion IsPassedOver (lines_in k sets)

abbrev pub RegionLinesPass : ModuleRegions → Type 0
RegionLinesPass f = SetLinesPass f.analysis.found.known f.regions

abbrev pub AllRegionLinesPass : Type 0
AllRegionLinesPass = (ps : List ParsedTree) (sss : List (List SymbolTree)) (g : Graph) → AreTables ps sss → AreNamed IsShown (known_of ps sss) → All RegionLinesPass (all_regions g (analyses (known_of ps sss) g))
