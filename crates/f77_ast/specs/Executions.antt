-- What is claimed of every execution in a run.
use Rattle.std.specs.Prelude.{List}
use Rattle.f77_ast.specs.Store.{Content, Store, put, undefined}
use Rattle.f77_ast.specs.Steps.{Spot}
use Rattle.f77_ast.specs.Runs.{Answer, Gave, Broke, Ran, Whole, run, store_of, first_of, rest_of}
use Rattle.f77_ast.specs.Places.{Places}
use Rattle.f77_ast.specs.Plans.{Flow, Plan, Ends, Breaks, Look, Set, Hold, Forget, Show, Take, Within, steps_of}

abbrev pub run_of : Plan → Store → List Content → Ran Flow
run_of t s i = run (steps_of t) (Whole s) i

-- where it gave an answer: of the answer, the store then, and the rest of the input
abbrev pub AtEnd : {A : Type 0} → Answer A → Store → List Content → (A → Store → List Content → Type 0) → Type 0
AtEnd (Gave a) s i P = P a s i
AtEnd (Broke b) s i P = Unit {0}

abbrev pub AtEndOf : {A : Type 0} → Ran A → (A → Store → List Content → Type 0) → Type 0
AtEndOf q P = AtEnd q.answer (store_of q.memory) q.input P

-- a claim on an execution: on its spot, the places of the module's variables, the store at its arrival, and its run from there
abbrev pub Claim : Type 1
Claim = Spot → Places → Store → Ran Flow → Type 0

-- the claim holds of each execution in the run from the store on the input
abbrev pub Executions : Claim → Plan → Store → List Content → Type 0
Executions C (Ends f) s i = Unit {0}
Executions C (Breaks b) s i = Unit {0}
Executions C (Look u k) s i = Executions C (k (s u)) s i
Executions C (Set u c t) s i = Executions C t (put s u c) i
Executions C (Hold u c t) s i = Executions C t (put s u c) i
Executions C (Forget u t) s i = Executions C t (put s u (undefined (s u))) i
Executions C (Show xs t) s i = Executions C t s i
Executions C (Take k) s i = Executions C (k (first_of i)) s (rest_of i)
Executions C (Within p at t k) s i = C p at s (run_of t s i) × Executions C t s i × AtEndOf (run_of t s i) (λ f z j. Executions C (k f) z j)
