-- OUT regions of a program, and their lines: which variables they have, and what the lines are read as.
use Rattle.std.specs.Prelude.{List, All}
use Rattle.f77_ast.specs.DeclTrees.{ParsedTree}
use Rattle.f77_ast.specs.declared.variable.Unit.{Unit as BlockUnit}
use Rattle.f77_ast.specs.Symbols.{SymbolTree}
use Rattle.call_graph.specs.declared.graph.Graph.{Graph}
use Rattle.f77_meaning.specs.Modules.{known_of}
use Rattle.loop_marker.specs.module_phases.ScalarPhases.{analyses}
use Rattle.loop_marker.specs.module_phases.RegionPhases.{all_regions}
use Rattle.loop_marker.specs.module_phases.InPhases.{all_ins}
use Rattle.loop_marker.specs.module_phases.OutPhases.{ModuleOuts, all_outs}
use Rattle.laws_programs.specs.roundtrip_programs.Lines.{IsShown}
use Rattle.laws_lines.specs.RegionTexts.Printed.{IsPlain}
use Rattle.laws_programs.specs.Programs.{AreTables}
use Rattle.laws_lines.specs.NameLaws.{AreWords}
use Rattle.laws_lines.specs.Regions.Names.{AreNamed}
use Rattle.laws_lines.specs.Regions.Laws.{SetsAreOver}
use Rattle.laws_lines.specs.Regions.LineLaws.{SetLinesMean, SetLinesPass}

-- each has one to four systems, each on subscripts and tracked cells of the module
abbrev pub OutsAreOver : List BlockUnit → ModuleOuts → Type 0
OutsAreOver untracked f = SetsAreOver untracked f.known.known.analysis.found.known f.outs

-- of modules with their tables, whatever their links are
abbrev pub OutsAreOverPlaces : Type 0
OutsAreOverPlaces = (ps : List ParsedTree) (sss : List (List SymbolTree)) (g : Graph) → AreTables ps sss → All (OutsAreOver g.untracked) (all_outs g (all_ins g (all_regions g (analyses (known_of ps sss) g))))

-- each line is read as a region that was found there, as it is shown, where no symbol is named as a subscript
abbrev pub OutLinesMean : ModuleOuts → Type 0
OutLinesMean f = SetLinesMean f.known.known.analysis.found.known f.outs

-- of modules with their tables, whose names are words
abbrev pub OutLinesMeanRegions : Type 0
OutLinesMeanRegions = (ps : List ParsedTree) (sss : List (List SymbolTree)) (g : Graph) → AreTables ps sss → All AreWords sss → AreNamed IsPlain (known_of ps sss) →
    All OutLinesMean (all_outs g (all_ins g (all_regions g (analyses (known_of ps sss) g))))

-- each line is a comment line that reading drops, where names are of printable ASCII
abbrev pub OutLinesPass : ModuleOuts → Type 0
OutLinesPass f = SetLinesPass f.known.known.analysis.found.known f.outs

abbrev pub AllOutLinesPass : Type 0
AllOutLinesPass = (ps : List ParsedTree) (sss : List (List SymbolTree)) (g : Graph) → AreTables ps sss → AreNamed IsShown (known_of ps sss) →
    All OutLinesPass (all_outs g (all_ins g (all_regions g (analyses (known_of ps sss) g))))
