-- Claims of executions, and claims of what they do in the run, together.
use Rattle.std.proofs.Common.{List}
use Rattle.f77_ast.specs.Store.{Content, Store, put, undefined}
use Rattle.f77_ast.specs.Steps.{Spot}
use Rattle.f77_ast.specs.Runs.{Event, first_of, rest_of}
use Rattle.f77_ast.specs.Places.{Places}
use Rattle.f77_ast.specs.Plans.{Plan, Ends, Breaks, Look, Set, Hold, Forget, Show, Take, Within}
use Rattle.f77_ast.specs.Executions.{run_of}
use Rattle.f77_meaning.specs.Occurrences.{Occurrence, Onward, places_in, events_from, events_after, Throughout}
use Rattle.laws_analyses.proofs.Statements.Ends.{both}
use Rattle.laws_marks.specs.ConflictExecutions.{Execution, AtEachExecution}

-- an execution, as what the run does
abbrev pub occurrence_of : Execution → List Event → Occurrence
occurrence_of x later = record { spot = x.spot; places = places_in x.spot.statement x.does x.start x.input x.places; start = x.start; ran = run_of x.does x.start x.input; later = later }

-- A, B: of each execution; D: of what it does
module _ (A B : Execution → Type 0) (D : Occurrence → Type 0) (C : Execution → Type 0) (follows : (x : Execution) (later : List Event) → A x → B x → D (occurrence_of x later) → C x) where
  pub at_each : (t : Plan) (s : Store) (i : List Content) (onward : Onward) → AtEachExecution A t s i → AtEachExecution B t s i → Throughout D t s i onward → AtEachExecution C t s i
  at_each (Ends f) s i onward a b d = tt
  at_each (Breaks c) s i onward a b d = tt
  at_each (Look u k) s i onward a b d = at_each (k (s u)) s i onward a b d
  at_each (Set u c t) s i onward a b d = at_each t (put s u c) i onward a b d
  at_each (Hold u c t) s i onward a b d = at_each t (put s u c) i onward a b d
  at_each (Forget u t) s i onward a b d = at_each t (put s u (undefined (s u))) i onward a b d
  at_each (Show xs t) s i onward a b d = at_each t s i onward a b d
  at_each (Take k) s i onward a b d = at_each (k (first_of i)) s (rest_of i) onward a b d
  at_each (Within p at t k) s i onward a b d =
      let q = run_of t s i in
      let next : Onward = λ f z j. events_from (k f) onward z j in (
        follows (record { spot = p; places = at; does = t; start = s; input = i }) (events_after q next) a.0 b.0 d.0,
        at_each t s i next a.1 b.1 d.1,
        both q (λ f z j. AtEachExecution A (k f) z j) (λ f z j. AtEachExecution B (k f) z j × Throughout D (k f) z j onward) (λ f z j. AtEachExecution C (k f) z j) (λ f z j e h. at_each (k f) z j onward e h.0 h.1) a.2
            (both q (λ f z j. AtEachExecution B (k f) z j) (λ f z j. Throughout D (k f) z j onward) (λ f z j. AtEachExecution B (k f) z j × Throughout D (k f) z j onward) (λ f z j e h. (e, h)) b.2 d.2),
      )
