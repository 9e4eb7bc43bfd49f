-- What an iteration does is a part of what its DO does, and it ends normally, or as the DO does.
use Rattle.std.proofs.Common.{◌≡◌, ◌⊎◌, inl, inr, ⊎_elim, ℕ, zero, suc, List, [], ◌∷◌, ◌++◌, Some, refl, sym, ap, ◌∙◌, subst}
use Rattle.std.specs.Prelude.{slice_get}
use Rattle.f77_ast.specs.Store.{Content, Store, put, undefined}
use Rattle.f77_ast.specs.Steps.{◌>>=◌}
use Rattle.f77_ast.specs.Runs.{Event, Arrived, Read, Wrote, Printed, Took, Answer, Gave, Broke, Ran, Whole, run, after_event, store_of, first_of, rest_of}
use Rattle.f77_ast.specs.Plans.{Flow, Normal, Jump, Returned, Stopped, Plan, steps_of}
use Rattle.f77_ast.specs.Plans as plan
use Rattle.f77_ast.specs.Executions.{run_of}
use Rattle.laws_analyses.proofs.Regions.Rules.{Continues}
use Rattle.laws_analyses.proofs.Regions.Traces.{trace_assoc, trace_nil}
use Rattle.laws_marks.specs.ConflictIterations.{Iteration, unless_over, after_part, iterations_since, iterations, IsPartOf, IterationsAreParts}
use Rattle.laws_marks.proofs.ConflictCuts.{run_back}

-- es: what was done since it began
record PartFrom (es : List Event) (q : Ran Flow) (x : Iteration) : Type 0 where
  before : List Event
  after : List Event
  did : es ++ q.trace ≡ before ++ (x.did ++ after)
  ended : (x.ended ≡ Gave Normal) ⊎ (x.ended ≡ q.answer)

-- ---- one of a list

head_is : (y : Iteration) (ys : List Iteration) (x : Iteration) → slice_get (y ∷ ys) zero ≡ Some x → y ≡ x
head_is y ys x e = cc

only : (y : Iteration) (j : ℕ) (x : Iteration) → slice_get (y ∷ []) j ≡ Some x → y ≡ x
only y zero x e = cc
only y (suc j) x e = cc

over : (f : Flow) (y : Iteration) (j : ℕ) (x : Iteration) → slice_get (unless_over f y) j ≡ Some x → y ≡ x
over Normal y j x e = cc
over (Jump l) y j x e = only y j x e
over Returned y j x e = only y j x e
over Stopped y j x e = only y j x e

-- ---- the last one, one before others, and events before

whole : (es : List Event) (q : Ran Flow) (y x : Iteration) → y ≡ x → es ++ q.trace ≡ y.did → y.ended ≡ q.answer → PartFrom es q x
whole es q y x same d e = subst (λ w. PartFrom es q w) same (record { before = []; after = []; did = d ∙ sym (trace_nil y.did); ended = inr e })

begun : (es fs : List Event) (q : Ran Flow) (y x : Iteration) → y ≡ x → es ++ q.trace ≡ y.did ++ fs → y.ended ≡ Gave Normal → PartFrom es q x
begun es fs q y x same d e = subst (λ w. PartFrom es q w) same (record { before = []; after = fs; did = d; ended = inl e })

with_event : (v : Event) (es : List Event) (q : Ran Flow) (x : Iteration) → PartFrom (es ++ v ∷ []) q x → PartFrom es (after_event v q) x
with_event v es q x h = record { before = h.before; after = h.after; did = sym (trace_assoc es (v ∷ []) q.trace) ∙ h.did; ended = h.ended }

after_one : (v : Event) (es : List Event) (q : Ran Flow) (x : Iteration) → PartFrom [] q x → PartFrom es (after_event v q) x
after_one v es q x h = record {
  before = es ++ v ∷ h.before;
  after = h.after;
  did = ap (λ z. es ++ v ∷ z) h.did ∙ sym (trace_assoc es (v ∷ h.before) (x.did ++ h.after));
  ended = h.ended;
}

-- ---- iterations in the rest of a plan

-- how a computation ends, and what it does, by its parts
abbrev Is : Ran Flow → Answer Flow → Store → List Event → Type 0
Is r a z fs = (a ≡ r.answer) × (fs ≡ r.trace)

since_part : (t : Plan) (b : Store) (es : List Event) (s : Store) (i : List Content) (j : ℕ) (x : Iteration) → slice_get (iterations_since b es t s i) j ≡ Some x → PartFrom es (run_of t s i) x
since_part (plan.Ends f) b es s i j x e = (let y : Iteration = record { start = b; did = es; ended = Gave f } in whole es (run_of (plan.Ends f) s i) y x (over f y j x e) (trace_nil es) refl)
since_part (plan.Breaks c) b es s i j x e = (let y : Iteration = record { start = b; did = es; ended = Broke c } in whole es (run_of (plan.Breaks c) s i) y x (only y j x e) (trace_nil es) refl)
since_part (plan.Look u k) b es s i j x e = with_event (Read u (s u)) es (run_of (k (s u)) s i) x (since_part (k (s u)) b (es ++ Read u (s u) ∷ []) s i j x e)
since_part (plan.Set u c t) b es s i zero x e =
    let y : Iteration = record { start = b; did = es; ended = Gave Normal } in
    begun es (Wrote u c ∷ (run_of t (put s u c) i).trace) (run_of (plan.Set u c t) s i) y x (head_is y (iterations_since (put s u c) [] t (put s u c) i) x e) refl refl
since_part (plan.Set u c t) b es s i (suc j) x e = after_one (Wrote u c) es (run_of t (put s u c) i) x (since_part t (put s u c) [] (put s u c) i j x e)
since_part (plan.Hold u c t) b es s i j x e = since_part t b es (put s u c) i j x e
since_part (plan.Forget u t) b es s i j x e = since_part t b es (put s u (undefined (s u))) i j x e
since_part (plan.Show xs t) b es s i j x e = with_event (Printed xs) es (run_of t s i) x (since_part t b (es ++ Printed xs ∷ []) s i j x e)
since_part (plan.Take k) b es s i j x e = with_event (Took (first_of i)) es (run_of (k (first_of i)) s (rest_of i)) x (since_part (k (first_of i)) b (es ++ Took (first_of i) ∷ []) s (rest_of i) j x e)
since_part (plan.Within p at t k) b es s i j x e =
    go (run_of t s i).answer (run_back (steps_of t) (λ g. steps_of (k g)) s i (Is (run (steps_of t >>= (λ g. steps_of (k g))) (Whole s) i)) (refl, refl))
    (λ g h. since_part (k g) b (es ++ Arrived p ∷ (run_of t s i).trace) (store_of (run_of t s i).memory) (run_of t s i).input j x h) e
  where
    go : (a : Answer Flow) → Continues (λ g. steps_of (k g)) (Is (run (steps_of t >>= (λ g. steps_of (k g))) (Whole s) i)) a (store_of (run_of t s i).memory) (run_of t s i).input (run_of t s i).trace →
        ((g : Flow) → slice_get (iterations_since b (es ++ Arrived p ∷ (run_of t s i).trace) (k g) (store_of (run_of t s i).memory) (run_of t s i).input) j ≡ Some x → PartFrom (es ++ Arrived p ∷ (run_of t s i).trace) (run_of (k g) (store_of (run_of t s i).memory) (run_of t s i).input) x) →
        slice_get (after_part a (λ g. iterations_since b (es ++ Arrived p ∷ (run_of t s i).trace) (k g) (store_of (run_of t s i).memory) (run_of t s i).input) (λ c. record { start = b; did = es ++ Arrived p ∷ (run_of t s i).trace; ended = Broke c } ∷ [])) j ≡ Some x →
        PartFrom es (after_event (Arrived p) (run (steps_of t >>= (λ g. steps_of (k g))) (Whole s) i)) x
    go (Gave g) c ih e =
        let h = ih g e in
        let q : Ran Flow = run_of (k g) (store_of (run_of t s i).memory) (run_of t s i).input in
        record {
          before = h.before;
          after = h.after;
          did = ap (λ z. es ++ Arrived p ∷ z) (sym c.1) ∙ (sym (trace_assoc es (Arrived p ∷ (run_of t s i).trace) q.trace) ∙ h.did);
          ended = ⊎_elim (λ n. inl n) (λ m. inr (m ∙ c.0)) h.ended;
        }
    go (Broke d) c ih e =
        let y : Iteration = record { start = b; did = es ++ Arrived p ∷ (run_of t s i).trace; ended = Broke d } in
        whole es (after_event (Arrived p) (run (steps_of t >>= (λ g. steps_of (k g))) (Whole s) i)) y x (only y j x e) (ap (λ z. es ++ Arrived p ∷ z) (sym c.1)) c.0

-- ---- before the first

part_in : (t : Plan) (s : Store) (i : List Content) (j : ℕ) (x : Iteration) → slice_get (iterations t s i) j ≡ Some x → PartFrom [] (run_of t s i) x
part_in (plan.Ends f) s i j x e = cc
part_in (plan.Breaks c) s i j x e = cc
part_in (plan.Look u k) s i j x e = after_one (Read u (s u)) [] (run_of (k (s u)) s i) x (part_in (k (s u)) s i j x e)
part_in (plan.Set u c t) s i j x e = after_one (Wrote u c) [] (run_of t (put s u c) i) x (since_part t (put s u c) [] (put s u c) i j x e)
part_in (plan.Hold u c t) s i j x e = part_in t (put s u c) i j x e
part_in (plan.Forget u t) s i j x e = part_in t (put s u (undefined (s u))) i j x e
part_in (plan.Show xs t) s i j x e = after_one (Printed xs) [] (run_of t s i) x (part_in t s i j x e)
part_in (plan.Take k) s i j x e = after_one (Took (first_of i)) [] (run_of (k (first_of i)) s (rest_of i)) x (part_in (k (first_of i)) s (rest_of i) j x e)
part_in (plan.Within p at t k) s i j x e =
    go (run_of t s i).answer (run_back (steps_of t) (λ g. steps_of (k g)) s i (Is (run (steps_of t >>= (λ g. steps_of (k g))) (Whole s) i)) (refl, refl))
    (λ g h. part_in (k g) (store_of (run_of t s i).memory) (run_of t s i).input j x h) e
  where
    go : (a : Answer Flow) → Continues (λ g. steps_of (k g)) (Is (run (steps_of t >>= (λ g. steps_of (k g))) (Whole s) i)) a (store_of (run_of t s i).memory) (run_of t s i).input (run_of t s i).trace →
        ((g : Flow) → slice_get (iterations (k g) (store_of (run_of t s i).memory) (run_of t s i).input) j ≡ Some x → PartFrom [] (run_of (k g) (store_of (run_of t s i).memory) (run_of t s i).input) x) →
        slice_get (after_part a (λ g. iterations (k g) (store_of (run_of t s i).memory) (run_of t s i).input) (λ c. [])) j ≡ Some x →
        PartFrom [] (after_event (Arrived p) (run (steps_of t >>= (λ g. steps_of (k g))) (Whole s) i)) x
    go (Gave g) c ih e =
        let h = ih g e in
        record {
          before = Arrived p ∷ ((run_of t s i).trace ++ h.before);
          after = h.after;
          did = ap (λ z. Arrived p ∷ z) (sym c.1 ∙ (ap (λ z. (run_of t s i).trace ++ z) h.did ∙ sym (trace_assoc (run_of t s i).trace h.before (x.did ++ h.after))));
          ended = ⊎_elim (λ n. inl n) (λ m. inr (m ∙ c.0)) h.ended;
        }
    go (Broke d) c ih e = cc

pub iterations_are_parts : IterationsAreParts
iterations_are_parts t s i j x e = (let h = part_in t s i j x e in record { before = h.before; after = h.after; did = h.did; ended = h.ended })
