-- What is proved of processes that are interleaved.
use Rattle.std.specs.Prelude.{◌≡◌, ◌⊎◌, ℕ, ◌<◌, List, []}
use Rattle.f77_ast.specs.Store.{Content, Store}
use Rattle.f77_ast.specs.Runs.{Event}
use Rattle.f77_ast.specs.Programs.{Conforms, Program, program_plan}
use Rattle.f77_meaning.specs.Interleavings.{Process, start, interleaved}
use Rattle.f77_meaning.specs.Processes.{Marked, process}
use Rattle.laws_interleavings.specs.Alone.{DoesAlone, in_order, NoneMeet, AsInOrder}
use Rattle.laws_interleavings.specs.Iterations.{MayInterleave, LoopInterleaves}
use Rattle.laws_interleavings.specs.Marks.{MarkedPlan, plain, plain_run, parallel_run}
use Rattle.laws_interleavings.specs.Sound.{SameEnd, IsShort, Enough}
use Rattle.laws_interleavings.specs.Strict.{StrictPlan}
use Rattle.laws_interleavings.specs.Holds.{MarksHold}
use Rattle.laws_interleavings.specs.MarkedPrograms.{Directives, marked_program}

-- processes of which each, begun after those before it, does some reads and writes alone, and of which no two meet, do the same whatever the picks are
abbrev pub InterleavingsAgree : Type 0
InterleavingsAgree = (p : ℕ → Process) (n : ℕ) (s : Store) (does : ℕ → List Event) → ((i : ℕ) → i < n → DoesAlone (p i) [] (in_order does s i) (does i)) → NoneMeet n does → (picks : List ℕ) →
    AsInOrder p n s does picks (interleaved p n picks (start s))

-- so do the iterations of a loop that may be interleaved
abbrev pub LoopsInterleave : Type 0
LoopsInterleave = (m : Marked) (s : Store) → MayInterleave m s → (picks : List ℕ) → LoopInterleaves m s picks (interleaved (process m) m.count picks (start s))

-- a plan with marked loops, of whose plain run the claims on marked loops hold, does by any schedule what its plain run does, or the schedule is too short, and then it
-- printed the beginning of that; and each unit that has a value in the end has that of the plain run
abbrev pub MarkedRunsAgree : Type 0
MarkedRunsAgree = (t : MarkedPlan) (s : Store) (i : List Content) → StrictPlan t → Conforms (plain_run t s i).answer → MarksHold t s i [] → (ls : List (List ℕ)) →
    SameEnd (plain_run t s i) (parallel_run t s ls i) ⊎ IsShort (plain_run t s i) (parallel_run t s ls i)

-- and it does so where the schedule is long enough
abbrev pub LongSchedulesEnd : Type 0
LongSchedulesEnd = (t : MarkedPlan) (s : Store) (i : List Content) → StrictPlan t → Conforms (plain_run t s i).answer → MarksHold t s i [] → (ls : List (List ℕ)) → Enough t s ls i →
    SameEnd (plain_run t s i) (parallel_run t s ls i)

-- a program with marked loops, without its marks, is the program
abbrev pub MarksAreForgotten : Type 0
MarksAreForgotten = (p : Program) (turns : ℕ) (marks : Directives) → plain (marked_program p turns marks) ≡ program_plan p turns
