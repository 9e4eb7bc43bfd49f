-- Each execution in a run, with what the run does after it.
use Rattle.std.specs.Prelude.{ℕ, zero, suc, Bool, true, false, List, [], ◌++◌}
use Rattle.f77_ast.specs.Store.{Content, Store, put, undefined}
use Rattle.f77_ast.specs.Steps.{Spot}
use Rattle.f77_ast.specs.Runs.{Event, Answer, Gave, Broke, Ran, store_of, first_of, rest_of}
use Rattle.f77_ast.specs.Places.{Places}
use Rattle.f77_ast.specs.Plans.{Flow, Normal, Jump, Returned, Stopped, Plan, Ends, Breaks, Look, Set, Hold, Forget, Show, Take, Within}
use Rattle.f77_ast.specs.Executions.{run_of, AtEndOf}

-- an execution of a statement, or of a module's entry with its body
pub record Occurrence : Type 0 where
  pub spot : Spot
  -- where the variables of its module lie
  pub places : Places
  -- the store at its arrival
  pub start : Store
  pub ran : Ran Flow
  -- what the run does after it
  pub later : List Event

-- the events that follow an end, by the store there and the rest of the input
abbrev pub Onward : Type 0
Onward = Flow → Store → List Content → List Event

abbrev pub after_answer : Answer Flow → Store → List Content → Onward → List Event
after_answer (Gave f) s i onward = onward f s i
after_answer (Broke b) s i onward = []

abbrev pub events_after : Ran Flow → Onward → List Event
events_after q onward = after_answer q.answer (store_of q.memory) q.input onward

-- what a plan does, and what follows it
abbrev pub events_from : Plan → Onward → Store → List Content → List Event
events_from t onward s i = let q = run_of t s i in q.trace ++ events_after q onward

-- the places of the first execution in a plan, or these if it has none
abbrev pub first_places : Plan → Store → List Content → Places → Places
first_places (Ends f) s i at = at
first_places (Breaks b) s i at = at
first_places (Look u k) s i at = first_places (k (s u)) s i at
first_places (Set u c t) s i at = first_places t (put s u c) i at
first_places (Hold u c t) s i at = first_places t (put s u c) i at
first_places (Forget u t) s i at = first_places t (put s u (undefined (s u))) i at
first_places (Show xs t) s i at = first_places t s i at
first_places (Take k) s i at = first_places (k (first_of i)) s (rest_of i) at
first_places (Within p q t k) s i at = q

-- at an entry the array dummies have their places once their bounds are read: those of the first statement
abbrev pub places_in : ℕ → Plan → Store → List Content → Places → Places
places_in zero t s i at = first_places t s i at
places_in (suc n) t s i at = at

-- the claim holds of each execution in the run of the plan from the store on the input
abbrev pub Throughout : (Occurrence → Type 0) → Plan → Store → List Content → Onward → Type 0
Throughout C (Ends f) s i onward = Unit {0}
Throughout C (Breaks b) s i onward = Unit {0}
Throughout C (Look u k) s i onward = Throughout C (k (s u)) s i onward
Throughout C (Set u c t) s i onward = Throughout C t (put s u c) i onward
Throughout C (Hold u c t) s i onward = Throughout C t (put s u c) i onward
Throughout C (Forget u t) s i onward = Throughout C t (put s u (undefined (s u))) i onward
Throughout C (Show xs t) s i onward = Throughout C t s i onward
Throughout C (Take k) s i onward = Throughout C (k (first_of i)) s (rest_of i) onward
Throughout C (Within p at t k) s i onward =
    let q = run_of t s i in
    C (record { spot = p; places = places_in p.statement t s i at; start = s; ran = q; later = events_after q (λ f z j. events_from (k f) onward z j) })
    × Throughout C t s i (λ f z j. events_from (k f) onward z j)
    × AtEndOf q (λ f z j. Throughout C (k f) z j onward)

-- an execution of a statement ends normally only by going on with the next, that of an entry also by RETURN
abbrev pub is_normal : ℕ → Flow → Bool
is_normal n Normal = true
is_normal n (Jump l) = false
is_normal zero Returned = true
is_normal (suc n) Returned = false
is_normal n Stopped = false
