-- How a marked loop ends, in its run on an input and without input.
use Rattle.std.specs.Prelude.{◌≡◌, ℕ, false, List, [], Some, slice_get}
use Rattle.f77_ast.specs.Trees.{LoopTree}
use Rattle.f77_ast.specs.Places.{Places}
use Rattle.f77_ast.specs.Store.{Content, Store}
use Rattle.f77_ast.specs.Writes.{Locks}
use Rattle.f77_ast.specs.Runs.{Answer, Gave, Broke, Ran}
use Rattle.f77_ast.specs.Plans.{Flow, Normal, Jump, Returned, Stopped}
use Rattle.f77_ast.specs.Executions.{run_of}
use Rattle.f77_ast.specs.Statements.{Scope, do_plan}
use Rattle.f77_meaning.specs.Processes.{Marked}
use Rattle.laws_interleavings.specs.Iterations.{begun, loop_plan, whole_loop}
use Rattle.laws_interleavings.specs.Sound.{NoTake, printed_by}
use Rattle.preconditions.specs.transformers.Jumps.{list_has}
use Rattle.laws_analyses.specs.Statements.Leads.{list_leads}
use Rattle.laws_analyses.specs.Statements.Activation.{Jumps}
use Rattle.laws_marks.specs.ConflictIterations.{Iteration, iterations}
use Rattle.laws_marks.specs.ConflictClaims.{LeavesBy, body_list}
use Rattle.laws_marks.specs.MarkedBegun.{iterations_of}
use Rattle.f77_ast.specs.Shapes.{is_return}

-- it ends normally, prints nothing and takes no input
pub record EndsQuietly (m : Marked) (s : Store) : Type 0 where
  pub normal : (whole_loop m s).answer ≡ Gave Normal
  pub silent : printed_by (whole_loop m s).trace ≡ []
  pub takes_nothing : NoTake (whole_loop m s).trace

-- from its first iteration on
abbrev pub loop_run : Marked → Store → List Content → Ran Flow
loop_run m s i = run_of (loop_plan m) (begun m s 0) i

-- control does not leave the body, by GO TO, RETURN or STOP
abbrev pub StaysIn : Answer Flow → Type 0
StaysIn (Gave Normal) = Unit {0}
StaysIn (Gave (Jump l)) = ⊥
StaysIn (Gave Returned) = ⊥
StaysIn (Gave Stopped) = ⊥
StaysIn (Broke b) = Unit {0}

-- on an input it comes to an end, control leaves no iteration, and it prints nothing and takes nothing
pub record IsQuietRun (m : Marked) (s : Store) (i : List Content) : Type 0 where
  pub flow : Flow
  pub ends : (loop_run m s i).answer ≡ Gave flow
  pub stays : (j : ℕ) (x : Iteration) → slice_get (iterations_of m s i) j ≡ Some x → StaysIn x.ended
  pub silent : printed_by (loop_run m s i).trace ≡ []
  pub takes_nothing : NoTake (loop_run m s i).trace

abbrev pub do_run : Scope → LoopTree → Places → Locks → Store → List Content → Ran Flow
do_run sc l at locked s i = run_of (do_plan l sc at locked) s i

-- the DO comes to an end on an input, not by STOP, prints nothing and takes nothing, and its body has no GO TO that leads out of it and no RETURN
pub record IsQuietDo (sc : Scope) (l : LoopTree) (at : Places) (locked : Locks) (s : Store) (i : List Content) : Type 0 where
  pub flow : Flow
  pub ends : (do_run sc l at locked s i).answer ≡ Gave flow
  pub no_stop : (do_run sc l at locked s i).answer ≡ Gave Stopped → ⊥
  pub silent : printed_by (do_run sc l at locked s i).trace ≡ []
  pub takes_nothing : NoTake (do_run sc l at locked s i).trace
  pub leaves : (j : ℕ) (x : Iteration) → slice_get (iterations (do_plan l sc at locked) s i) j ≡ Some x → LeavesBy (body_list l) x.ended
  pub no_jump : (n : ℕ) → Jumps (λ ls. list_leads (body_list l) ls) n → ⊥
  pub no_return : list_has is_return (body_list l) ≡ false
