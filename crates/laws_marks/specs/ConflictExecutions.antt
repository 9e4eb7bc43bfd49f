-- Each execution in a run, with the plan of what it does.
use Rattle.std.specs.Prelude.{ℕ, List}
use Rattle.f77_ast.specs.Store.{Content, Store, put, undefined}
use Rattle.f77_ast.specs.Steps.{Spot}
use Rattle.f77_ast.specs.Runs.{first_of, rest_of}
use Rattle.f77_ast.specs.Places.{Places}
use Rattle.f77_ast.specs.Plans.{Plan, Ends, Breaks, Look, Set, Hold, Forget, Show, Take, Within}
use Rattle.f77_ast.specs.Executions.{run_of, AtEndOf}
use Rattle.f77_ast.specs.Programs.{program_plan}
use Rattle.call_graph.specs.declared.graph.Graph.{Graph}
use Rattle.f77_meaning.specs.Modules.{Known}
use Rattle.f77_meaning.specs.Linked.{program_of}

-- an execution of a statement, or of a module's entry with its body
pub record Execution : Type 0 where
  pub spot : Spot
  -- where the variables of its module lie
  pub places : Places
  pub does : Plan
  -- the store at its arrival, and what is left of the input
  pub start : Store
  pub input : List Content

-- the claim holds of each execution in the run of the plan from the store on the input
abbrev pub AtEachExecution : (Execution → Type 0) → Plan → Store → List Content → Type 0
AtEachExecution C (Ends f) s i = Unit {0}
AtEachExecution C (Breaks b) s i = Unit {0}
AtEachExecution C (Look u k) s i = AtEachExecution C (k (s u)) s i
AtEachExecution C (Set u c t) s i = AtEachExecution C t (put s u c) i
AtEachExecution C (Hold u c t) s i = AtEachExecution C t (put s u c) i
AtEachExecution C (Forget u t) s i = AtEachExecution C t (put s u (undefined (s u))) i
AtEachExecution C (Show xs t) s i = AtEachExecution C t s i
AtEachExecution C (Take k) s i = AtEachExecution C (k (first_of i)) s (rest_of i)
AtEachExecution C (Within p at t k) s i =
    C (record { spot = p; places = at; does = t; start = s; input = i })
    × AtEachExecution C t s i
    × AtEndOf (run_of t s i) (λ f z j. AtEachExecution C (k f) z j)

-- in every run of a program, also in one that a fault ends later
abbrev pub InEachExecution : List Known → Graph → (Execution → Type 0) → Type 0
InEachExecution ks g C = let p = program_of ks g in (turns : ℕ) (input : List Content) → AtEachExecution C (program_plan p turns) p.initial input
