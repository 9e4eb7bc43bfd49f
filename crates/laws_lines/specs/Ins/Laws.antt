-- IN regions of a program, and their lines: which variables they have, and what the lines are read as.
use Rattle.std.specs.Prelude.{List, All}
use Rattle.f77_ast.specs.DeclTrees.{ParsedTree}
use Rattle.f77_ast.specs.declared.variable.Unit.{Unit as BlockUnit}
use Rattle.f77_ast.specs.Symbols.{SymbolTree}
use Rattle.call_graph.specs.declared.graph.Graph.{Graph}
use Rattle.f77_meaning.specs.Modules.{known_of}
use Rattle.loop_marker.specs.module_phases.ScalarPhases.{analyses}
use Rattle.loop_marker.specs.module_phases.RegionPhases.{all_regions}
use Rattle.loop_marker.specs.module_phases.InPhases.{ModuleIns, all_ins}
use Rattle.laws_programs.specs.roundtrip_programs.Lines.{IsShown}
use Rattle.laws_lines.specs.RegionTexts.Printed.{IsPlain}
use Rattle.laws_programs.specs.Programs.{AreTables}
use Rattle.laws_lines.specs.NameLaws.{AreWords}
use Rattle.laws_lines.specs.Regions.Names.{AreNamed}
use Rattle.laws_lines.specs.Regions.Laws.{SetsAreOver}
use Rattle.laws_lines.specs.Regions.LineLaws.{SetLinesMean, SetLinesPass}

-- each has one to four systems, each on subscripts and tracked cells of the module
abbrev pub InsAreOver : List BlockUnit → ModuleIns → Type 0
InsAreOver untracked f = SetsAreOver untracked f.known.analysis.found.known f.ins

-- of modules with their tables, whatever their links are
abbrev pub InsAreOverPlaces : Type 0
InsAreOverPlaces = (ps : List ParsedTree) (sss : List (List SymbolTree)) (g : Graph) → AreTables ps sss → All (InsAreOver g.untracked) (all_ins g (all_regions g (analyses (known_of ps sss) g)))

-- each line is read as a region that was found there, as it is shown, where no symbol is named as a subscript
abbrev pub InLinesMean : ModuleIns → Type 0
InLinesMean f = SetLinesMean f.known.analysis.found.known f.ins

-- of modules with their tables, whose names are words
abbrev pub InLinesMeanRegions : Type 0
InLinesMeanRegions = (ps : List ParsedTree) (sss : List (List SymbolTree)) (g : Graph) → AreTables ps sss → All AreWords sss → AreNamed IsPlain (known_of ps sss) →
    All InLinesMean (all_ins g (all_regions g (analyses (known_of ps sss) g)))

-- each line is a comment line that reading drops, where names are of printable ASCII
abbrev pub InLinesPass : ModuleIns → Type 0
InLinesPass f = SetLinesPass f.known.analysis.found.known f.ins

abbrev pub AllInLinesPass : Type 0
AllInLinesPass = (ps : List ParsedTree) (sss : List (List SymbolTree)) (g : Graph) → AreTables ps sss → AreNamed IsShown (known_of ps sss) →
    All InLinesPass (all_ins g (all_regions g (analyses (known_of ps sss) g)))
