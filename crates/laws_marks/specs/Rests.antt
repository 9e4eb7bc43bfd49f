-- Each execution in a run, with the plan of what it does, and with what the run does after it.
use Rattle.std.specs.Prelude.{List}
use Rattle.f77_ast.specs.Store.{Content, Store, put, undefined}
use Rattle.f77_ast.specs.Runs.{Event, first_of, rest_of}
use Rattle.f77_ast.specs.Plans.{Plan, Ends, Breaks, Look, Set, Hold, Forget, Show, Take, Within}
use Rattle.f77_ast.specs.Executions.{run_of, AtEndOf}
use Rattle.f77_meaning.specs.Occurrences.{Occurrence, Onward, events_after, events_from, places_in, Throughout}
use Rattle.laws_marks.specs.ConflictExecutions.{Execution, AtEachExecution}

-- the claim holds of each execution in the run of the plan from the store on the input, and of what the run does after it
abbrev pub EachWithRest : (Execution → List Event → Type 0) → Plan → Store → List Content → Onward → Type 0
EachWithRest C (Ends f) s i onward = Unit {0}
EachWithRest C (Breaks b) s i onward = Unit {0}
EachWithRest C (Look u k) s i onward = EachWithRest C (k (s u)) s i onward
EachWithRest C (Set u c t) s i onward = EachWithRest C t (put s u c) i onward
EachWithRest C (Hold u c t) s i onward = EachWithRest C t (put s u c) i onward
EachWithRest C (Forget u t) s i onward = EachWithRest C t (put s u (undefined (s u))) i onward
EachWithRest C (Show xs t) s i onward = EachWithRest C t s i onward
EachWithRest C (Take k) s i onward = EachWithRest C (k (first_of i)) s (rest_of i) onward
EachWithRest C (Within p at t k) s i onward =
    let q = run_of t s i in
    C (record { spot = p; places = at; does = t; start = s; input = i }) (events_after q (λ f z j. events_from (k f) onward z j))
    × EachWithRest C t s i (λ f z j. events_from (k f) onward z j)
    × AtEndOf q (λ f z j. EachWithRest C (k f) z j onward)

-- an execution as regions are claimed of it
abbrev pub occurrence_of : Execution → List Event → Occurrence
occurrence_of x later = record { spot = x.spot; places = places_in x.spot.statement x.does x.start x.input x.places; start = x.start; ran = run_of x.does x.start x.input; later = later }

-- claims of plans and claims of what comes later, together
abbrev pub Both : (Execution → Type 0) → (Occurrence → Type 0) → Execution → List Event → Type 0
Both C D x later = C x × D (occurrence_of x later)

abbrev pub ClaimsStandTogether : Type 1
ClaimsStandTogether = (C : Execution → Type 0) (D : Occurrence → Type 0) (t : Plan) (s : Store) (i : List Content) (onward : Onward) → AtEachExecution C t s i → Throughout D t s i onward → EachWithRest (Both C D) t s i onward
