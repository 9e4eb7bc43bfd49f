-- Claims of executions, and claims of what the rest of the run does after them, put together.
use Rattle.std.proofs.Common.{List}
use Rattle.f77_ast.specs.Store.{Content, Store, put, undefined}
use Rattle.f77_ast.specs.Steps.{Spot}
use Rattle.f77_ast.specs.Runs.{Event, first_of, rest_of}
use Rattle.f77_ast.specs.Places.{Places}
use Rattle.f77_ast.specs.Plans.{Plan, Ends, Breaks, Look, Set, Hold, Forget, Show, Take, Within}
use Rattle.f77_ast.specs.Executions.{run_of}
use Rattle.f77_meaning.specs.Occurrences.{Occurrence, Onward, Throughout, places_in, events_from, events_after}
use Rattle.laws_analyses.proofs.Statements.Ends.{both}
use Rattle.laws_marks.specs.ConflictExecutions.{Execution, AtEachExecution}

-- of an execution and of what it is in a run
abbrev pub Joined : (Execution → Type 0) → (Occurrence → Type 0) → (Occurrence → Type 0) → Type 0
Joined E A C =
    (p : Spot) (at : Places) (t : Plan) (s : Store) (i : List Content) (later : List Event) → E (record { spot = p; places = at; does = t; start = s; input = i }) →
    A (record { spot = p; places = places_in p.statement t s i at; start = s; ran = run_of t s i; later = later }) → C (record { spot = p; places = places_in p.statement t s i at; start = s; ran = run_of t s i; later = later })

module _ (E : Execution → Type 0) (A C : Occurrence → Type 0) (joined : Joined E A C) where
  pub merged : (t : Plan) (s : Store) (i : List Content) (onward : Onward) → AtEachExecution E t s i → Throughout A t s i onward → Throughout C t s i onward
  merged (Ends f) s i onward e h = tt
  merged (Breaks b) s i onward e h = tt
  merged (Look u k) s i onward e h = merged (k (s u)) s i onward e h
  merged (Set u c t) s i onward e h = merged t (put s u c) i onward e h
  merged (Hold u c t) s i onward e h = merged t (put s u c) i onward e h
  merged (Forget u t) s i onward e h = merged t (put s u (undefined (s u))) i onward e h
  merged (Show xs t) s i onward e h = merged t s i onward e h
  merged (Take k) s i onward e h = merged (k (first_of i)) s (rest_of i) onward e h
  merged (Within p at t k) s i onward e h =
      let q = run_of t s i in
      let next : Onward = λ f z j. events_from (k f) onward z j in (
        joined p at t s i (events_after q next) e.0 h.0,
        merged t s i next e.1 h.1,
        both q (λ f z j. AtEachExecution E (k f) z j) (λ f z j. Throughout A (k f) z j onward) (λ f z j. Throughout C (k f) z j onward) (λ f z j a b. merged (k f) z j onward a b) e.2 h.2,
      )

-- two claims of what the rest of the run does
module _ (A B C : Occurrence → Type 0) (joined : (x : Occurrence) → A x → B x → C x) where
  pub throughout_both : (t : Plan) (s : Store) (i : List Content) (onward : Onward) → Throughout A t s i onward → Throughout B t s i onward → Throughout C t s i onward
  throughout_both (Ends f) s i onward e h = tt
  throughout_both (Breaks b) s i onward e h = tt
  throughout_both (Look u k) s i onward e h = throughout_both (k (s u)) s i onward e h
  throughout_both (Set u c t) s i onward e h = throughout_both t (put s u c) i onward e h
  throughout_both (Hold u c t) s i onward e h = throughout_both t (put s u c) i onward e h
  throughout_both (Forget u t) s i onward e h = throughout_both t (put s u (undefined (s u))) i onward e h
  throughout_both (Show xs t) s i onward e h = throughout_both t s i onward e h
  throughout_both (Take k) s i onward e h = throughout_both (k (first_of i)) s (rest_of i) onward e h
  throughout_both (Within p at t k) s i onward e h =
      let q = run_of t s i in
      let next : Onward = λ f z j. events_from (k f) onward z j in (
        joined (record { spot = p; places = places_in p.statement t s i at; start = s; ran = q; later = events_after q next }) e.0 h.0,
        throughout_both t s i next e.1 h.1,
        both q (λ f z j. Throughout A (k f) z j onward) (λ f z j. Throughout B (k f) z j onward) (λ f z j. Throughout C (k f) z j onward) (λ f z j a b. throughout_both (k f) z j onward a b) e.2 h.2,
      )
