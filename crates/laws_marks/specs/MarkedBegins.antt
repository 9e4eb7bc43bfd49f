-- A marked DO statement: what it does before its loop, and that then it does what the loop does.
use Rattle.std.specs.Prelude.{◌≡◌, ℕ, List, ◌++◌, None}
use Rattle.f77_ast.specs.Trees.{LoopTree}
use Rattle.f77_ast.specs.Places.{Variable, Places}
use Rattle.f77_ast.specs.Store.{Content, Store}
use Rattle.f77_ast.specs.Writes.{Locks}
use Rattle.f77_ast.specs.Runs.{Event, Ran}
use Rattle.f77_ast.specs.Plans.{Flow}
use Rattle.f77_ast.specs.Executions.{run_of}
use Rattle.f77_ast.specs.Statements.{Scope, do_plan}
use Rattle.f77_meaning.specs.Processes.{Marked}
use Rattle.laws_marks.specs.ConflictIterations.{iterations}
use Rattle.laws_marks.specs.MarkedBegun.{begun_plan, iterations_of}

-- a run, where this was done before
abbrev pub behind : List Event → Ran Flow → Ran Flow
behind es q = record { answer = q.answer; memory = q.memory; input = q.input; trace = es ++ q.trace }

-- the DO with this variable comes to its loop: that has the unit of the variable, which is not locked; the store and the input are as they were; and the iterations of the DO are those of the
-- loop
pub record Begins (sc : Scope) (variable : List ℕ) (l : LoopTree) (at : Places) (locked : Locks) (m : Marked) (s : Store) (i : List Content) : Type 0 where
  pub symbol : ℕ
  pub is_symbol : sc.names variable ≡ Variable symbol
  pub unit : m.index ≡ (at symbol).first
  pub unlocked : locked m.index ≡ None
  pub cut : iterations (do_plan l sc at locked) s i ≡ iterations_of m s i
  -- what it did before
  pub looks : List Event
  pub run : run_of (do_plan l sc at locked) s i ≡ behind looks (run_of (begun_plan m) s i)
