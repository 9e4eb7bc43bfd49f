-- What the analyses of tracked cells over the modules of a program say of its runs.
use Rattle.std.specs.Prelude.{ℕ, List}
use Rattle.f77_ast.specs.DeclTrees.{ParsedTree}
use Rattle.f77_ast.specs.Symbols.{SymbolTree}
use Rattle.call_graph.specs.declared.graph.Graph.{Graph}
use Rattle.f77_meaning.specs.Modules.{known_of}
use Rattle.f77_meaning.specs.Claimed.{InEveryRun}
use Rattle.laws_programs.specs.Storage.Programs.{IsLinked, IsModule}
use Rattle.laws_programs.specs.Storage.Initial.{DataLies}
use Rattle.laws_programs.specs.Programs.{IsProgram}
use Rattle.f77_ast.specs.StatementNumbers.{HasNumbers}
use Rattle.laws_analyses.specs.Calls.ProgramLaws.{EachHolds}
use Rattle.laws_analyses.specs.CallLaws.{Settled}
use Rattle.laws_analyses.specs.Analysed.{part_named, AreAnalysed}
use Rattle.module_phases.specs.ScalarPhases.{analyses}
use Rattle.laws_analyses.specs.Claims.{AnalysesHold}
use Rattle.laws_analyses.specs.Coverage.{AreWhole}
use Rattle.laws_analyses.specs.Results.{callees_of_all, analysed_entry, analysed_sites}

-- the analyses of a program that links, whose statements are numbered, give summaries and entries that follow from one another
abbrev pub AnalysesFollow : Type 0
AnalysesFollow = (ps : List ParsedTree) (sss : List (List SymbolTree)) (g : Graph) → IsLinked ps sss g → ((i : ℕ) (p : ParsedTree) (ss : List SymbolTree) → IsModule ps sss i p ss → HasNumbers p.module_read.body) →
    AreAnalysed (known_of ps sss) g (callees_of_all (known_of ps sss) g) (analysed_sites (known_of ps sss) g) (analysed_entry (known_of ps sss) g)

-- in every run of a program that is read, up to its first fault, what they give holds, where names, GO TOs, numbers and targets are as reading makes them
abbrev pub WholeAnalysesHold : Type 0
WholeAnalysesHold = (ps : List ParsedTree) (sss : List (List SymbolTree)) (g : Graph) → IsProgram ps sss g → DataLies ps sss →
    ((i : ℕ) (p : ParsedTree) (ss : List SymbolTree) → IsModule ps sss i p ss → Settled g p ss) →
    InEveryRun (known_of ps sss) g (EachHolds (callees_of_all (known_of ps sss) g) (part_named (known_of ps sss) g (callees_of_all (known_of ps sss) g) (analysed_entry (known_of ps sss) g)))

-- so what the analyses of a program that is read say of its statements and modules holds in every run, up to its first fault
abbrev pub ReadAnalysesHold : Type 0
ReadAnalysesHold = (ps : List ParsedTree) (sss : List (List SymbolTree)) (g : Graph) → IsProgram ps sss g →
    InEveryRun (known_of ps sss) g (AnalysesHold g (analyses (known_of ps sss) g))

-- and they leave no module and no statement out
abbrev pub AnalysesAreWhole : Type 0
AnalysesAreWhole = (ps : List ParsedTree) (sss : List (List SymbolTree)) (g : Graph) → IsProgram ps sss g → AreWhole (known_of ps sss) (analyses (known_of ps sss) g)
