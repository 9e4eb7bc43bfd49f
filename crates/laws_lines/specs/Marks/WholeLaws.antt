-- The whole written text of a program is read, with its directives, as the program with its marked loops.
use Rattle.std.specs.Prelude.{◌≡◌, Bool, false, List, ◌++◌, map}
use Rattle.f77_ast.specs.Trees.{StmtTrees}
use Rattle.f77_ast.specs.DeclTrees.{ParsedTree}
use Rattle.f77_printer.specs.declared.added.Added.{Added}
use Rattle.f77_ast.specs.declared.results.At.{At}
use Rattle.result_lines.specs.ReductionLines.{LoopSaid, said_lines}
use Rattle.laws_programs.specs.roundtrip_programs.Statements.Formed.{Each}
use Rattle.system_text.specs.Reading.{Bytes}
use Rattle.system_text.specs.Printed.{AreNames}
use Rattle.laws_programs.specs.roundtrip_programs.Texts.Texts.{IsReadAs, modules_text, plain_text, module_of}
use Rattle.laws_programs.specs.roundtrip_programs.Texts.Laws.{AllPassedOver}
use Rattle.laws_programs.specs.roundtrip_programs.Lines.{AreShown}
use Rattle.laws_lines.specs.Marks.Directives.{Clauses, is_sentinel}
use Rattle.laws_lines.specs.Marks.Marked.{loops_in, with_functions, ReadMarked}
use Rattle.laws_lines.specs.Marks.Lines.{AreNumberedSaid}
use Rattle.laws_lines.specs.Marks.MarkedLoops.{parallel_in}

-- something is said of each DO of a module, in the order of the text; private variables and reduction variables are symbols
pub record IsMarking (names : List Bytes) (body : StmtTrees) (ss : List (At LoopSaid)) : Type 0 where
  pub each : map (λ (s : At LoopSaid). s.id) ss ≡ loops_in body
  pub numbered : AreNumberedSaid names ss

-- of a module: the names of its symbols, what is said of its loops, and other lines, none of which is a line for compilers
pub record IsMarked (names : ParsedTree → List Bytes) (said : ParsedTree → List (At LoopSaid)) (others : ParsedTree → List Added) (p : ParsedTree) : Type 0 where
  pub named : AreNames (names p)
  pub shown : AreShown (names p)
  pub marking : IsMarking (names p) p.module_read.body (said p)
  pub plain : Each (λ (a : Added). is_sentinel a.line ≡ false) (others p)

-- the lines on its loops come behind the other lines
abbrev pub with_marks : (ParsedTree → List Bytes) → Bool → (ParsedTree → List (At LoopSaid)) → (ParsedTree → List Added) → ParsedTree → List Added
with_marks names why said others p = others p ++ said_lines (names p) why (said p)

-- the text is read, with its directives, as modules with these marks, which are the same as those, and are written as the same text
pub record MarkedBack (text : Bytes) (ps : List ParsedTree) (marks : List (List (At Clauses))) : Type 0 where
  pub again : List ParsedTree
  pub read : ReadMarked text again marks
  pub same : map module_of again ≡ map module_of ps
  pub written : map plain_text again ≡ map plain_text ps

abbrev pub MarksReadBack : Type 0
MarksReadBack =
    (text : Bytes) (ps : List ParsedTree) (names : ParsedTree → List Bytes) (why : Bool) (said : ParsedTree → List (At LoopSaid)) (others : ParsedTree → List Added) → IsReadAs text ps
    → AllPassedOver (with_marks names why said others) ps → Each (IsMarked names said others) ps
    → MarkedBack (modules_text (with_marks names why said others) ps) ps (map (λ (p : ParsedTree). with_functions p.module_read (parallel_in (names p) (said p))) ps)

-- the written text of modules, with lines that reading drops and that depend on the statements of a module alone, is written again, with these lines, of what it is read as
abbrev pub TextsAreWrittenAgain : Type 0
TextsAreWrittenAgain =
    (text : Bytes) (ps qs : List ParsedTree) (added : ParsedTree → List Added) → IsReadAs text ps → AllPassedOver added ps → ((p q : ParsedTree) → q.module_read ≡ p.module_read → added q ≡ added p)
    → IsReadAs (modules_text added ps) qs → modules_text added qs ≡ modules_text added ps
