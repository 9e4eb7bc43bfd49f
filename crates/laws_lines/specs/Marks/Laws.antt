-- What is written of loops is read as what is said of them.
use Rattle.std.specs.Prelude.{◌≡◌, ℕ, Bool, false, List, map, Some}
use Rattle.std.specs.List.{AllByRecursion}
use Rattle.f77_ast.specs.DeclTrees.{ParsedTree}
use Rattle.f77_ast.specs.declared.results.At.{At}
use Rattle.system_text.specs.SystemText.{name_at}
use Rattle.f77_ast.specs.declared.marks.Reason.{Reason}
use Rattle.result_lines.specs.MarkText.{obstacle_line, directive_text, directive_lines}
use Rattle.result_lines.specs.ReductionText.{reduction_text}
use Rattle.result_lines.specs.ReductionLines.{LoopSaid, said_lines}
use Rattle.result_lines.specs.declared.reduction.Part.{Part}
use Rattle.system_text.specs.Reading.{Bytes}
use Rattle.system_text.specs.Printed.{AreNames, AreNumbers}
use Rattle.laws_programs.specs.roundtrip_programs.Texts.Texts.{IsPassedOver}
use Rattle.laws_programs.specs.roundtrip_programs.Lines.{AreShown}
use Rattle.laws_lines.specs.Marks.Directives.{Clauses, private_alone, is_sentinel, read_lines}
use Rattle.laws_lines.specs.Marks.Marked.{ReadMarked}
use Rattle.laws_lines.specs.Marks.Lines.{clauses_of, AreShownSaid, AreNumberedParts}

-- the lines of a directive without reduction variables are read as the names of its private variables
abbrev pub DirectivesReadBack : Type 0
DirectivesReadBack = (names : List Bytes) (ns : List ℕ) → AreNames names → AreNumbers names ns → read_lines (directive_lines (directive_text names ns)) ≡ Some (private_alone (map (name_at names) ns))

-- those of any directive as these names, and as the operators and names of its reduction variables
abbrev pub ReductionsReadBack : Type 0
ReductionsReadBack =
    (names : List Bytes) (ns : List ℕ) (ps : List Part) → AreNames names → AreNumbers names ns → AreNumberedParts names ps
    → read_lines (directive_lines (reduction_text names ns ps)) ≡ Some (clauses_of names ns ps)

-- that of an obstacle is no line for compilers
abbrev pub ObstaclesAreNoDirectives : Type 0
ObstaclesAreNoDirectives = (names : List Bytes) (r : Reason) → is_sentinel (obstacle_line names r) ≡ false

-- each line on loops is a comment line that reading drops
abbrev pub LoopLinesArePassedOver : Type 0
LoopLinesArePassedOver = (names : List Bytes) (why : Bool) (ss : List (At LoopSaid)) → AreShown names → AreShownSaid ss → AllByRecursion IsPassedOver (said_lines names why ss)

-- a text is read as one program and one choice of marks at most
abbrev pub ReadingIsUnique : Type 0
ReadingIsUnique =
    (text : Bytes) (ps qs : List ParsedTree) (ms ns : List (List (At Clauses))) → ReadMarked text ps ms → ReadMarked text qs ns
    → record { modules : ps ≡ qs; marks : ms ≡ ns }
