-- Runs of plans that are put together, and claims on the executions in both.
use Rattle.std.proofs.Common.{◌≡◌, List, ◌∷◌, ◌++◌, refl, sym, ap, ◌∙◌, subst, append-nil}
use Rattle.f77_ast.specs.Store.{Content, Store, put, undefined}
use Rattle.f77_ast.specs.Steps.{Spot, Shown, Break, Steps, ◌>>=◌}
use Rattle.f77_ast.specs.Steps as steps
use Rattle.f77_ast.specs.Runs.{Event, Arrived, Read, Wrote, Printed, Took, Memory, Whole, Answer, Gave, Broke, Ran, after_event, run, store_of, first_of, rest_of}
use Rattle.f77_ast.specs.Plans.{Flow, Plan, Ends, Breaks, Look, Set, Hold, Forget, Show, Take, Within, ◌▹◌, first, steps_of}
use Rattle.f77_ast.specs.Executions.{run_of, AtEnd, AtEndOf}
use Rattle.f77_meaning.specs.Occurrences.{Occurrence, Onward, after_answer, events_after, events_from, places_in, Throughout}
use Rattle.laws_marks.specs.OutRests.{onward_by}
use Rattle.f77_ast.proofs.Shared.{steps_then as plan_then}

-- ---- one after another

-- goes on where a run ended
abbrev pub on_from : {A B : Type 0} → Answer A → Memory → List Content → List Event → (A → Store → List Content → Ran B) → Ran B
on_from (Gave a) m i es f = let q = f a (store_of m) i in record { answer = q.answer; memory = q.memory; input = q.input; trace = es ++ q.trace }
on_from (Broke b) m i es f = record { answer = Broke b; memory = m; input = i; trace = es }

abbrev pub then_run : {A B : Type 0} → Ran A → (A → Store → List Content → Ran B) → Ran B
then_run q f = on_from q.answer q.memory q.input q.trace f

after_from : {A B : Type 0} (e : Event) (a : Answer A) (m : Memory) (i : List Content) (es : List Event) (f : A → Store → List Content → Ran B) → after_event e (on_from a m i es f) ≡ on_from a m i (e ∷ es) f
after_from e (Gave a) m i es f = refl
after_from e (Broke b) m i es f = refl

pub run_after : {A B : Type 0} (t : Steps A) (f : A → Steps B) (s : Store) (i : List Content) → run (t >>= f) (Whole s) i ≡ then_run (run t (Whole s) i) (λ a z j. run (f a) (Whole z) j)
run_after (steps.Done a) f s i = refl
run_after (steps.Breaks b) f s i = refl
run_after (steps.Look u k) f s i =
    let q = run (k (s u)) (Whole s) i in
    ap (after_event (Read u (s u))) (run_after (k (s u)) f s i) ∙ after_from (Read u (s u)) q.answer q.memory q.input q.trace (λ a z j. run (f a) (Whole z) j)
run_after (steps.Set u c t) f s i =
    let q = run t (Whole (put s u c)) i in
    ap (after_event (Wrote u c)) (run_after t f (put s u c) i) ∙ after_from (Wrote u c) q.answer q.memory q.input q.trace (λ a z j. run (f a) (Whole z) j)
run_after (steps.Hold u c t) f s i = run_after t f (put s u c) i
run_after (steps.Forget u t) f s i = run_after t f (put s u (undefined (s u))) i
run_after (steps.Show xs t) f s i =
    let q = run t (Whole s) i in
    ap (after_event (Printed xs)) (run_after t f s i) ∙ after_from (Printed xs) q.answer q.memory q.input q.trace (λ a z j. run (f a) (Whole z) j)
run_after (steps.Take k) f s i =
    let q = run (k (first_of i)) (Whole s) (rest_of i) in
    ap (after_event (Took (first_of i))) (run_after (k (first_of i)) f s (rest_of i)) ∙ after_from (Took (first_of i)) q.answer q.memory q.input q.trace (λ a z j. run (f a) (Whole z) j)
run_after (steps.Arrive p t) f s i =
    let q = run t (Whole s) i in
    ap (after_event (Arrived p)) (run_after t f s i) ∙ after_from (Arrived p) q.answer q.memory q.input q.trace (λ a z j. run (f a) (Whole z) j)

-- the run of a plan that goes on with another
pub plan_after : (t : Plan) (f : Flow → Plan) (s : Store) (i : List Content) → run_of (t ▹ f) s i ≡ then_run (run_of t s i) (λ g z j. run_of (f g) z j)
plan_after t f s i = ap (λ x. run x (Whole s) i) (plan_then t f) ∙ run_after (steps_of t) (λ g. steps_of (f g)) s i

pub then_assoc : (x : Plan) (f k : Flow → Plan) → (x ▹ f) ▹ k ≡ x ▹ (λ g. f g ▹ k)
then_assoc (Ends g) f k = refl
then_assoc (Breaks b) f k = refl
then_assoc (Look u c) f k = λ i. Look u (λ x. then_assoc (c x) f k i)
then_assoc (Set u c t) f k = λ i. Set u c (then_assoc t f k i)
then_assoc (Hold u c t) f k = λ i. Hold u c (then_assoc t f k i)
then_assoc (Forget u t) f k = λ i. Forget u (then_assoc t f k i)
then_assoc (Show xs t) f k = λ i. Show xs (then_assoc t f k i)
then_assoc (Take c) f k = λ i. Take (λ o. then_assoc (c o) f k i)
then_assoc (Within p at t c) f k = λ i. Within p at t (λ g. then_assoc (c g) f k i)

-- ---- what follows

-- the trace of both
trace_from : (a : Answer Flow) (m : Memory) (i : List Content) (es : List Event) (k : Flow → Plan) → (on_from a m i es (λ g z j. run_of (k g) z j)).trace ≡ es ++ after_answer a (store_of m) i (onward_by k)
trace_from (Gave g) m i es k = refl
trace_from (Broke b) m i es k = sym (append-nil es)

pub events_join : (t : Plan) (k : Flow → Plan) (s : Store) (i : List Content) → events_from t (onward_by k) s i ≡ (run_of (t ▹ k) s i).trace
events_join t k s i = let q = run_of t s i in sym (ap (λ r. r.trace) (plan_after t k s i) ∙ trace_from q.answer q.memory q.input q.trace k)

-- where what follows is a plan, what follows a part is one, too
pub onward_join : (c k : Flow → Plan) → (λ (f : Flow) (z : Store) (j : List Content). events_from (c f) (onward_by k) z j) ≡ onward_by (λ g. c g ▹ k)
onward_join c k = λ d f z j. events_join (c f) k z j d

abbrev from_parts : (Flow → Plan) → (Flow → Plan) → Onward
from_parts c k f z j = events_from (c f) (onward_by k) z j

parts_join : (c f k : Flow → Plan) → from_parts c (λ x. f x ▹ k) ≡ from_parts (λ g. c g ▹ f) k
parts_join c f k = onward_join c (λ x. f x ▹ k) ∙ (sym (λ d. onward_by (λ g. then_assoc (c g) f k d)) ∙ sym (onward_join (λ g. c g ▹ f) k))

-- ---- claims on executions

at_end_both : (a : Answer Flow) (m : Memory) (i : List Content) (P Q R : Flow → Store → List Content → Type 0) → ((f : Flow) (z : Store) (j : List Content) → P f z j → Q f z j → R f z j) → AtEnd a (store_of m) i P → AtEnd a (store_of m) i Q → AtEnd a (store_of m) i R
at_end_both (Gave f) m i P Q R h p q = h f (store_of m) i p q
at_end_both (Broke b) m i P Q R h p q = tt

at_end_from : (a : Answer Flow) (m : Memory) (i : List Content) (es : List Event) (f : Flow → Store → List Content → Ran Flow) (Q : Flow → Store → List Content → Type 0) → AtEndOf (on_from a m i es f) Q → AtEnd a (store_of m) i (λ g z j. AtEndOf (f g z j) Q)
at_end_from (Gave g) m i es f Q h = h
at_end_from (Broke b) m i es f Q h = tt

-- one that holds of each execution in two parts
pub throughout_then : (C : Occurrence → Type 0) (t : Plan) (f k : Flow → Plan) (s : Store) (i : List Content) → Throughout C t s i (onward_by (λ g. f g ▹ k)) → AtEndOf (run_of t s i) (λ g z j. Throughout C (f g) z j (onward_by k)) → Throughout C (t ▹ f) s i (onward_by k)
throughout_then C (Ends g) f k s i h n = n
throughout_then C (Breaks b) f k s i h n = tt
throughout_then C (Look u c) f k s i h n = throughout_then C (c (s u)) f k s i h n
throughout_then C (Set u c t) f k s i h n = throughout_then C t f k (put s u c) i h n
throughout_then C (Hold u c t) f k s i h n = throughout_then C t f k (put s u c) i h n
throughout_then C (Forget u t) f k s i h n = throughout_then C t f k (put s u (undefined (s u))) i h n
throughout_then C (Show xs t) f k s i h n = throughout_then C t f k s i h n
throughout_then C (Take c) f k s i h n = throughout_then C (c (first_of i)) f k s (rest_of i) h n
throughout_then C (Within p at t c) f k s i h n =
    let q = run_of t s i in
    let e = parts_join c f k in (
      subst (λ o. C (record { spot = p; places = places_in p.statement t s i at; start = s; ran = q; later = events_after q o })) e h.0,
      subst (λ o. Throughout C t s i o) e h.1,
      at_end_both q.answer q.memory q.input (λ g z j. Throughout C (c g) z j (onward_by (λ x. f x ▹ k))) (λ g z j. AtEndOf (run_of (c g) z j) (λ x y l. Throughout C (f x) y l (onward_by k))) (λ g z j. Throughout C (c g ▹ f) z j (onward_by k)) (λ g z j a b. throughout_then C (c g) f k z j a b) h.2
          (at_end_from q.answer q.memory q.input q.trace (λ g z j. run_of (c g) z j) (λ x y l. Throughout C (f x) y l (onward_by k))
          (subst (λ r. AtEndOf r (λ x y l. Throughout C (f x) y l (onward_by k))) (run_after (steps_of t) (λ g. steps_of (c g)) s i) n)),
    )

-- none in what comes before a plan
pub throughout_first : {A : Type 0} (C : Occurrence → Type 0) (t : Steps A) (f : A → Plan) (s : Store) (i : List Content) (o : Onward) → ((a : A) (z : Store) (j : List Content) → Throughout C (f a) z j o) → Throughout C (first t f) s i o
throughout_first C (steps.Done a) f s i o h = h a s i
throughout_first C (steps.Breaks b) f s i o h = tt
throughout_first C (steps.Look u k) f s i o h = throughout_first C (k (s u)) f s i o h
throughout_first C (steps.Set u c t) f s i o h = throughout_first C t f (put s u c) i o h
throughout_first C (steps.Hold u c t) f s i o h = throughout_first C t f (put s u c) i o h
throughout_first C (steps.Forget u t) f s i o h = throughout_first C t f (put s u (undefined (s u))) i o h
throughout_first C (steps.Show xs t) f s i o h = throughout_first C t f s i o h
throughout_first C (steps.Take k) f s i o h = throughout_first C (k (first_of i)) f s (rest_of i) o h
throughout_first C (steps.Arrive p t) f s i o h = throughout_first C t f s i o h
