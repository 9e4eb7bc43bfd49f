-- Programs that are read, with the directives that are found: their runs by schedules.
use Rattle.std.specs.Prelude.{ℕ, Bool, List, []}
use Rattle.f77_ast.specs.DeclTrees.{ParsedTree}
use Rattle.f77_ast.specs.Store.{Content}
use Rattle.f77_ast.specs.Programs.{Program, program_run, EndsRun}
use Rattle.f77_ast.specs.Symbols.{SymbolTree}
use Rattle.call_graph.specs.declared.graph.Graph.{Graph}
use Rattle.f77_meaning.specs.Modules.{known_of}
use Rattle.f77_meaning.specs.Linked.{program_of}
use Rattle.loop_marker.specs.Phases.{all_marks}
use Rattle.laws_programs.specs.Programs.{IsProgram}
use Rattle.laws_interleavings.specs.Holds.{MarksHold}
use Rattle.laws_interleavings.specs.MarkedPrograms.{Directives, marked_program}
use Rattle.laws_marks.specs.DeadLaws.{outs_of}
use Rattle.laws_marks.specs.Directives.{AreFound}
use Rattle.laws_marks.specs.Schedules.{DoesAs}

-- of programs that are read, with directives of which each says what was found, with reduction variables or without
abbrev pub OfMarkedPrograms : (Program → Directives → Type 0) → Type 0
OfMarkedPrograms C = (ps : List ParsedTree) (sss : List (List SymbolTree)) (g : Graph) → IsProgram ps sss g → (reductions : Bool) (d : Directives) → AreFound g reductions (all_marks g (outs_of ps sss g)) d → C (program_of (known_of ps sss) g) d

-- what is claimed of marked loops holds along each run that comes to its end without a fault
abbrev pub MarksHoldInProgram : Program → Directives → Type 0
MarksHoldInProgram p d = (turns : ℕ) (input : List Content) → EndsRun (program_run p turns input).answer → MarksHold (marked_program p turns d) p.initial input []

abbrev pub ReadMarksHold : Type 0
ReadMarksHold = OfMarkedPrograms MarksHoldInProgram

-- a program that is read, with directives of which each says what was found, does so itself
abbrev pub ReadRunsAsPlain : Type 0
ReadRunsAsPlain = OfMarkedPrograms (λ p d. DoesAs p p d)
