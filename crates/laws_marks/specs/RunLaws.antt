-- Marked loops along a whole run.
use Rattle.std.specs.Prelude.{◌≡◌, ℕ, false, nat_eq, List, [], ◌∷◌}
use Rattle.f77_ast.specs.Store.{Content}
use Rattle.f77_ast.specs.Runs.{Event}
use Rattle.f77_ast.specs.Programs.{Routine, Program, program_plan}
use Rattle.laws_interleavings.specs.MarkedPrograms.{Directives, marked_program}
use Rattle.laws_interleavings.specs.Holds.{MarksHold}
use Rattle.laws_marks.specs.ConflictExecutions.{Execution}
use Rattle.laws_interleavings.specs.Typed.{IsTagged, AllTagged}
use Rattle.laws_marks.specs.Rests.{EachWithRest}
use Rattle.laws_marks.specs.Loops.{AreOutside, RoutineHolds, RoutinesHold}

-- units rs: units that are of no variable of the first of the modules rs (of an expression that is an actual, of a local of a module that it may call, ..); what is such for the callees is such for the
-- caller. Of a program whose variables have types: where a claim holds of each execution in its run, and from this follows that the loop of a marked DO holds there, the claims on marked loops hold
-- along the run
abbrev pub MarksHoldInRuns : Type 1
MarksHoldInRuns =
    (p : Program) (turns : ℕ) (marks : Directives) (units : List Routine → ℕ → Type 0) (C : Execution → List Event → Type 0) → p.main.dummies ≡ [] → IsTagged p.main → AllTagged p.others →
    ((r : Routine) (rs : List Routine) (u : ℕ) → units rs u → units (r ∷ rs) u) → ((rs : List Routine) (u : ℕ) → units rs u → nat_eq 0 u ≡ false) → AreOutside units (p.main ∷ p.others) →
    RoutineHolds turns marks units C p.main p.others → RoutinesHold turns marks units C p.others → (input : List Content) → EachWithRest C (program_plan p turns) p.initial input (λ f s i. []) → MarksHold (marked_program p turns marks) p.initial input []
