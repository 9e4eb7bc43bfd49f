-- Claims of plans and claims of what comes later, together.
use Rattle.std.proofs.Common.{List}
use Rattle.f77_ast.specs.Store.{Content, Store, put, undefined}
use Rattle.f77_ast.specs.Runs.{Event, Answer, Gave, Broke, store_of, first_of, rest_of}
use Rattle.f77_ast.specs.Plans.{Flow, Plan, Ends, Breaks, Look, Set, Hold, Forget, Show, Take, Within}
use Rattle.f77_ast.specs.Executions.{run_of, AtEnd}
use Rattle.f77_ast.proofs.StepLaws.{at_end_more}
use Rattle.f77_meaning.specs.Occurrences.{Onward, events_after, events_from, Throughout}
use Rattle.laws_marks.specs.ConflictExecutions.{Execution, AtEachExecution}
use Rattle.laws_marks.specs.Rests.{Both, EachWithRest, ClaimsStandTogether}

pub both_ends : (a : Answer Flow) (s : Store) (i : List Content) (P Q R : Flow → Store → List Content → Type 0) → ((f : Flow) (z : Store) (j : List Content) → P f z j → Q f z j → R f z j) → AtEnd a s i P → AtEnd a s i Q → AtEnd a s i R
both_ends (Gave f) s i P Q R m h g = m f s i h g
both_ends (Broke b) s i P Q R m h g = tt

pub together : ClaimsStandTogether
together C D (Ends f) s i onward h g = tt
together C D (Breaks b) s i onward h g = tt
together C D (Look u k) s i onward h g = together C D (k (s u)) s i onward h g
together C D (Set u c t) s i onward h g = together C D t (put s u c) i onward h g
together C D (Hold u c t) s i onward h g = together C D t (put s u c) i onward h g
together C D (Forget u t) s i onward h g = together C D t (put s u (undefined (s u))) i onward h g
together C D (Show xs t) s i onward h g = together C D t s i onward h g
together C D (Take k) s i onward h g = together C D (k (first_of i)) s (rest_of i) onward h g
together C D (Within p at t k) s i onward h g =
    let q = run_of t s i in (
      (h.0, g.0),
      together C D t s i (λ f z j. events_from (k f) onward z j) h.1 g.1,
      both_ends q.answer (store_of q.memory) q.input (λ f z j. AtEachExecution C (k f) z j) (λ f z j. Throughout D (k f) z j onward) (λ f z j. EachWithRest (Both C D) (k f) z j onward) (λ f z j a b. together C D (k f) z j onward a b) h.2 g.2,
    )

-- what holds of each execution, whatever the run does after it
pub alone : (C : Execution → Type 0) (t : Plan) (s : Store) (i : List Content) (onward : Onward) → AtEachExecution C t s i → EachWithRest (λ x later. C x) t s i onward
alone C (Ends f) s i onward h = tt
alone C (Breaks b) s i onward h = tt
alone C (Look u k) s i onward h = alone C (k (s u)) s i onward h
alone C (Set u c t) s i onward h = alone C t (put s u c) i onward h
alone C (Hold u c t) s i onward h = alone C t (put s u c) i onward h
alone C (Forget u t) s i onward h = alone C t (put s u (undefined (s u))) i onward h
alone C (Show xs t) s i onward h = alone C t s i onward h
alone C (Take k) s i onward h = alone C (k (first_of i)) s (rest_of i) onward h
alone C (Within p at t k) s i onward h =
    let q = run_of t s i in (
      h.0,
      alone C t s i (λ f z j. events_from (k f) onward z j) h.1,
      at_end_more q.answer (store_of q.memory) q.input (λ f z j. AtEachExecution C (k f) z j) (λ f z j. EachWithRest (λ x later. C x) (k f) z j onward) (λ f z j g. alone C (k f) z j onward g) h.2,
    )

-- and what follows from a claim
pub follows : (C D : Execution → List Event → Type 0) → ((x : Execution) (later : List Event) → C x later → D x later) → (t : Plan) (s : Store) (i : List Content) (onward : Onward) → EachWithRest C t s i onward → EachWithRest D t s i onward
follows C D m (Ends f) s i onward h = tt
follows C D m (Breaks b) s i onward h = tt
follows C D m (Look u k) s i onward h = follows C D m (k (s u)) s i onward h
follows C D m (Set u c t) s i onward h = follows C D m t (put s u c) i onward h
follows C D m (Hold u c t) s i onward h = follows C D m t (put s u c) i onward h
follows C D m (Forget u t) s i onward h = follows C D m t (put s u (undefined (s u))) i onward h
follows C D m (Show xs t) s i onward h = follows C D m t s i onward h
follows C D m (Take k) s i onward h = follows C D m (k (first_of i)) s (rest_of i) onward h
follows C D m (Within p at t k) s i onward h =
    let q = run_of t s i in (
      m (record { spot = p; places = at; does = t; start = s; input = i }) (events_after q (λ f z j. events_from (k f) onward z j)) h.0,
      follows C D m t s i (λ f z j. events_from (k f) onward z j) h.1,
      at_end_more q.answer (store_of q.memory) q.input (λ f z j. EachWithRest C (k f) z j onward) (λ f z j. EachWithRest D (k f) z j onward) (λ f z j g. follows C D m (k f) z j onward g) h.2,
    )
