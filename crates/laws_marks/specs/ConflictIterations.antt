-- The iterations in an execution of a DO (ANSI X3.9-1978 §11.10).
use Rattle.std.specs.Prelude.{◌≡◌, ◌⊎◌, ℕ, List, [], ◌∷◌, ◌++◌, slice_get, Some}
use Rattle.f77_ast.specs.Steps.{Break}
use Rattle.f77_ast.specs.Store.{Content, Store, put, undefined}
use Rattle.f77_ast.specs.Runs.{Event, Arrived, Read, Printed, Took, Answer, Gave, Broke, Ran, store_of, first_of, rest_of}
use Rattle.f77_ast.specs.Plans.{Flow, Normal, Jump, Returned, Stopped, Plan, Ends, Breaks, Look, Set, Hold, Forget, Show, Take, Within}
use Rattle.f77_ast.specs.Executions.{run_of}

-- the store where it begins, what it does, and how it ends: where the run breaks off after its last statement, it ends by that
pub record Iteration : Type 0 where
  pub start : Store
  pub did : List Event
  pub ended : Answer Flow

-- a DO that ends normally has given its variable a number for which no iteration is left
abbrev pub unless_over : Flow → Iteration → List Iteration
unless_over Normal x = []
unless_over (Jump l) x = x ∷ []
unless_over Returned x = x ∷ []
unless_over Stopped x = x ∷ []

-- what comes after a part, where it ended, or where the run breaks off in it
abbrev pub after_part : Answer Flow → (Flow → List Iteration) → (Break → List Iteration) → List Iteration
after_part (Gave f) next broken = next f
after_part (Broke c) next broken = broken c

-- of the rest of the plan of a DO, where the last iteration that began found the store b and has done es. The executions of the statements of the body are
-- parts of the plan; what else is written is the DO variable, and then an iteration begins
abbrev pub iterations_since : Store → List Event → Plan → Store → List Content → List Iteration
iterations_since b es (Ends f) s i = unless_over f (record { start = b; did = es; ended = Gave f })
iterations_since b es (Breaks c) s i = record { start = b; did = es; ended = Broke c } ∷ []
iterations_since b es (Look u k) s i = iterations_since b (es ++ Read u (s u) ∷ []) (k (s u)) s i
iterations_since b es (Set u c t) s i = record { start = b; did = es; ended = Gave Normal } ∷ iterations_since (put s u c) [] t (put s u c) i
iterations_since b es (Hold u c t) s i = iterations_since b es t (put s u c) i
iterations_since b es (Forget u t) s i = iterations_since b es t (put s u (undefined (s u))) i
iterations_since b es (Show xs t) s i = iterations_since b (es ++ Printed xs ∷ []) t s i
iterations_since b es (Take k) s i = iterations_since b (es ++ Took (first_of i) ∷ []) (k (first_of i)) s (rest_of i)
iterations_since b es (Within p at t k) s i =
    let q = run_of t s i in
    let fs = es ++ Arrived p ∷ q.trace in
    after_part q.answer (λ f. iterations_since b fs (k f) (store_of q.memory) q.input) (λ c. record { start = b; did = fs; ended = Broke c } ∷ [])

-- of the plan of a DO: none before its variable has its first number
abbrev pub iterations : Plan → Store → List Content → List Iteration
iterations (Ends f) s i = []
iterations (Breaks c) s i = []
iterations (Look u k) s i = iterations (k (s u)) s i
iterations (Set u c t) s i = iterations_since (put s u c) [] t (put s u c) i
iterations (Hold u c t) s i = iterations t (put s u c) i
iterations (Forget u t) s i = iterations t (put s u (undefined (s u))) i
iterations (Show xs t) s i = iterations t s i
iterations (Take k) s i = iterations (k (first_of i)) s (rest_of i)
iterations (Within p at t k) s i =
    let q = run_of t s i in
    after_part q.answer (λ f. iterations (k f) (store_of q.memory) q.input) (λ c. [])

-- ---- how they lie in what the DO does

-- what it does is a part of that, and it ends normally, or as the DO does
pub record IsPartOf (q : Ran Flow) (x : Iteration) : Type 0 where
  pub before : List Event
  pub after : List Event
  pub did : q.trace ≡ before ++ (x.did ++ after)
  pub ended : (x.ended ≡ Gave Normal) ⊎ (x.ended ≡ q.answer)

-- so it is of whatever plan
abbrev pub IterationsAreParts : Type 0
IterationsAreParts = (t : Plan) (s : Store) (i : List Content) (j : ℕ) (x : Iteration) → slice_get (iterations t s i) j ≡ Some x → IsPartOf (run_of t s i) x
