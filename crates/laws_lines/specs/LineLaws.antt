-- What is written of analyses is read as what they found.
use Rattle.std.specs.Prelude.{List, All}
use Rattle.f77_ast.specs.DeclTrees.{ParsedTree}
use Rattle.f77_ast.specs.Symbols.{SymbolTree}
use Rattle.call_graph.specs.declared.graph.Graph.{Graph}
use Rattle.f77_meaning.specs.Modules.{known_of, symbol_names}
use Rattle.result_lines.specs.ScalarLines.{scalar_lines_of}
use Rattle.loop_marker.specs.module_phases.ScalarPhases.{Analysis, analyses}
use Rattle.laws_programs.specs.Programs.{AreTables}
use Rattle.laws_lines.specs.NameLaws.{AreWords}
use Rattle.laws_lines.specs.Lines.{EachMeans}

-- each line that is written of an analysis
abbrev pub LinesMeanResults : Analysis → Type 0
LinesMeanResults a = EachMeans a (scalar_lines_of a.found.known.read.main a.found.known.read.body (symbol_names a.found.known.symbols) a.found.own a.holds)

-- of modules with their tables, whose names are words
abbrev pub AnalysesAreReadBack : Type 0
AnalysesAreReadBack = (ps : List ParsedTree) (sss : List (List SymbolTree)) (g : Graph) → AreTables ps sss → All AreWords sss → All LinesMeanResults (analyses (known_of ps sss) g)
