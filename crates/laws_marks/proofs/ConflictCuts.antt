-- What holds of each iteration in the plan of a DO.
use Rattle.std.proofs.Common.{◌≡◌, ℕ, zero, suc, ◌+◌, List, [], ◌∷◌, ◌++◌, Option, Some, sym, subst, arith}
use Rattle.std.specs.Prelude.{slice_get}
use Rattle.f77_ast.specs.Store.{Content, Store, put, undefined}
use Rattle.f77_ast.specs.Steps.{Break, Steps, Done, Look, Set, Hold, Forget, Show, Take, Arrive, ◌>>=◌}
use Rattle.f77_ast.specs.Steps as steps
use Rattle.f77_ast.specs.Runs.{Event, Arrived, Read, Wrote, Printed, Took, Answer, Gave, Broke, Ran, Whole, run, store_of, first_of, rest_of}
use Rattle.f77_ast.specs.Plans.{Flow, Plan, ◌▹◌, first, steps_of}
use Rattle.f77_ast.specs.Plans as plan
use Rattle.f77_ast.specs.Executions.{run_of, AtEnd, Claim}
use Rattle.laws_analyses.specs.Statements.Good.{AtEach}
use Rattle.laws_analyses.proofs.Regions.Looks.{Looked}
use Rattle.laws_analyses.proofs.Regions.Rules.{Post, Meets, Continues, On}
use Rattle.laws_analyses.proofs.Regions.Traces.{trace_assoc, trace_nil}
use Rattle.laws_marks.specs.ConflictIterations.{Iteration, after_part, iterations_since, iterations}

-- ---- lists of iterations

-- by their places, from this one on
abbrev pub AllAt : (ℕ → Iteration → Type 0) → ℕ → List Iteration → Type 0
AllAt P j [] = Unit {0}
AllAt P j (x ∷ xs) = P j x × AllAt P (suc j) xs

at_later : (P : ℕ → Iteration → Type 0) (j : ℕ) (xs : List Iteration) → AllAt P j xs → (i : ℕ) (x : Iteration) → slice_get xs i ≡ Some x → P (j + i) x
at_later P j [] h i x e = cc
at_later P j (y ∷ ys) h zero x e =
    let same : y ≡ x = cc in
    let here : j ≡ j + 0 = omega arith in
    subst (λ n. P n x) here (subst (P j) same h.0)
at_later P j (y ∷ ys) h (suc i) x e =
    let later : suc j + i ≡ j + suc i = omega arith in
    subst (λ n. P n x) later (at_later P (suc j) ys h.1 i x e)

pub at_place : (P : ℕ → Iteration → Type 0) (xs : List Iteration) → AllAt P 0 xs → (i : ℕ) (x : Iteration) → slice_get xs i ≡ Some x → P i x
at_place P xs h i x e =
    let same : 0 + i ≡ i = omega arith in
    subst (λ n. P n x) same (at_later P 0 xs h i x e)

-- ---- runs of one computation after another, from the whole to its parts

pub run_back : {A B : Type 0} (t : Steps A) (f : A → Steps B) (s : Store) (i : List Content) (Q : Post B) → Meets Q (run (t >>= f) (Whole s) i) → On (Continues f Q) (run t (Whole s) i)
run_back (Done a) f s i Q h = h
run_back (steps.Breaks b) f s i Q h = h
run_back (Look u k) f s i Q h = shift (run (k (s u)) (Whole s) i) (run_back (k (s u)) f s i (λ b y fs. Q b y (Read u (s u) ∷ fs)) h)
  where
    shift : (q : Ran _) → On (Continues f (λ b y fs. Q b y (Read u (s u) ∷ fs))) q → On (λ a z j es. Continues f Q a z j (Read u (s u) ∷ es)) q
    shift q g = go q.answer g
      where
        go : (a : Answer _) → Continues f (λ b y fs. Q b y (Read u (s u) ∷ fs)) a (store_of q.memory) q.input q.trace → Continues f Q a (store_of q.memory) q.input (Read u (s u) ∷ q.trace)
        go (Gave a) g = g
        go (Broke b) g = g
run_back (Set u c t) f s i Q h = shift (run t (Whole (put s u c)) i) (run_back t f (put s u c) i (λ b y fs. Q b y (Wrote u c ∷ fs)) h)
  where
    shift : (q : Ran _) → On (Continues f (λ b y fs. Q b y (Wrote u c ∷ fs))) q → On (λ a z j es. Continues f Q a z j (Wrote u c ∷ es)) q
    shift q g = go q.answer g
      where
        go : (a : Answer _) → Continues f (λ b y fs. Q b y (Wrote u c ∷ fs)) a (store_of q.memory) q.input q.trace → Continues f Q a (store_of q.memory) q.input (Wrote u c ∷ q.trace)
        go (Gave a) g = g
        go (Broke b) g = g
run_back (Hold u c t) f s i Q h = run_back t f (put s u c) i Q h
run_back (Forget u t) f s i Q h = run_back t f (put s u (undefined (s u))) i Q h
run_back (Show xs t) f s i Q h = shift (run t (Whole s) i) (run_back t f s i (λ b y fs. Q b y (Printed xs ∷ fs)) h)
  where
    shift : (q : Ran _) → On (Continues f (λ b y fs. Q b y (Printed xs ∷ fs))) q → On (λ a z j es. Continues f Q a z j (Printed xs ∷ es)) q
    shift q g = go q.answer g
      where
        go : (a : Answer _) → Continues f (λ b y fs. Q b y (Printed xs ∷ fs)) a (store_of q.memory) q.input q.trace → Continues f Q a (store_of q.memory) q.input (Printed xs ∷ q.trace)
        go (Gave a) g = g
        go (Broke b) g = g
run_back (Take k) f s i Q h = shift (run (k (first_of i)) (Whole s) (rest_of i)) (run_back (k (first_of i)) f s (rest_of i) (λ b y fs. Q b y (Took (first_of i) ∷ fs)) h)
  where
    shift : (q : Ran _) → On (Continues f (λ b y fs. Q b y (Took (first_of i) ∷ fs))) q → On (λ a z j es. Continues f Q a z j (Took (first_of i) ∷ es)) q
    shift q g = go q.answer g
      where
        go : (a : Answer _) → Continues f (λ b y fs. Q b y (Took (first_of i) ∷ fs)) a (store_of q.memory) q.input q.trace → Continues f Q a (store_of q.memory) q.input (Took (first_of i) ∷ q.trace)
        go (Gave a) g = g
        go (Broke b) g = g
run_back (Arrive p t) f s i Q h = shift (run t (Whole s) i) (run_back t f s i (λ b y fs. Q b y (Arrived p ∷ fs)) h)
  where
    shift : (q : Ran _) → On (Continues f (λ b y fs. Q b y (Arrived p ∷ fs))) q → On (λ a z j es. Continues f Q a z j (Arrived p ∷ es)) q
    shift q g = go q.answer g
      where
        go : (a : Answer _) → Continues f (λ b y fs. Q b y (Arrived p ∷ fs)) a (store_of q.memory) q.input q.trace → Continues f Q a (store_of q.memory) q.input (Arrived p ∷ q.trace)
        go (Gave a) g = g
        go (Broke b) g = g

-- ---- plans that write only in parts

abbrev pub NoSets : Plan → Type 0
NoSets (plan.Ends f) = Unit {0}
NoSets (plan.Breaks b) = Unit {0}
NoSets (plan.Look u k) = (c : Content) → NoSets (k c)
NoSets (plan.Set u c t) = ⊥
NoSets (plan.Hold u c t) = NoSets t
NoSets (plan.Forget u t) = NoSets t
NoSets (plan.Show xs t) = NoSets t
NoSets (plan.Take k) = (o : Option Content) → NoSets (k o)
NoSets (plan.Within p at t k) = (f : Flow) → NoSets (k f)

pub no_sets_then : (t : Plan) (f : Flow → Plan) → NoSets t → ((g : Flow) → NoSets (f g)) → NoSets (t ▹ f)
no_sets_then (plan.Ends g) f h n = n g
no_sets_then (plan.Breaks b) f h n = tt
no_sets_then (plan.Look u k) f h n = λ c. no_sets_then (k c) f (h c) n
no_sets_then (plan.Set u c t) f h n = absurd h
no_sets_then (plan.Hold u c t) f h n = no_sets_then t f h n
no_sets_then (plan.Forget u t) f h n = no_sets_then t f h n
no_sets_then (plan.Show xs t) f h n = no_sets_then t f h n
no_sets_then (plan.Take k) f h n = λ o. no_sets_then (k o) f (h o) n
no_sets_then (plan.Within p at t k) f h n = λ g. no_sets_then (k g) f (h g) n

-- D: what is claimed of the executions in the run
module _ (D : Claim) (P : ℕ → Iteration → Type 0) (j : ℕ) (b : Store) (f : Flow → Plan) where
  abbrev pub Next : Post Flow → List Event → Type 0
  Next Q es = (g : Flow) (z : Store) (fs : List Event) (i : List Content) → Q (Gave g) z fs → AtEach D (f g) z i → AllAt P j (iterations_since b (es ++ fs) (f g) z i)

  abbrev pub Broken : Post Flow → List Event → Type 0
  Broken Q es = (c : Break) (z : Store) (fs : List Event) → Q (Broke c) z fs → P j (record { start = b; did = es ++ fs; ended = Broke c })

  next_more : (Q : Post Flow) (e : Event) (es : List Event) → Next Q es → Next (λ a z fs. Q a z (e ∷ fs)) (es ++ e ∷ [])
  next_more Q e es next g z fs i q h = subst (λ ts. AllAt P j (iterations_since b ts (f g) z i)) (sym (trace_assoc es (e ∷ []) fs)) (next g z (e ∷ fs) i q h)

  broken_more : (Q : Post Flow) (e : Event) (es : List Event) → Broken Q es → Broken (λ a z fs. Q a z (e ∷ fs)) (es ++ e ∷ [])
  broken_more Q e es broke c z fs q = subst (λ ts. P j (record { start = b; did = ts; ended = Broke c })) (sym (trace_assoc es (e ∷ []) fs)) (broke c z (e ∷ fs) q)

  -- a plan without writes of its own, and what comes after it
  pub cut_then : (t : Plan) → NoSets t → (es : List Event) (s : Store) (i : List Content) (Q : Post Flow) → Meets Q (run_of t s i) → AtEach D (t ▹ f) s i → Next Q es → Broken Q es → AllAt P j (iterations_since b es (t ▹ f) s i)
  cut_then (plan.Ends g) n es s i Q m h next broke = subst (λ ts. AllAt P j (iterations_since b ts (f g) s i)) (trace_nil es) (next g s [] i m h)
  cut_then (plan.Breaks c) n es s i Q m h next broke = (subst (λ ts. P j (record { start = b; did = ts; ended = Broke c })) (trace_nil es) (broke c s [] m), tt)
  cut_then (plan.Look u k) n es s i Q m h next broke =
      cut_then (k (s u)) (n (s u)) (es ++ Read u (s u) ∷ []) s i (λ a z fs. Q a z (Read u (s u) ∷ fs)) m h (next_more Q (Read u (s u)) es next) (broken_more Q (Read u (s u)) es broke)
  cut_then (plan.Set u c t) n es s i Q m h next broke = absurd n
  cut_then (plan.Hold u c t) n es s i Q m h next broke = cut_then t n es (put s u c) i Q m h next broke
  cut_then (plan.Forget u t) n es s i Q m h next broke = cut_then t n es (put s u (undefined (s u))) i Q m h next broke
  cut_then (plan.Show xs t) n es s i Q m h next broke =
      cut_then t n (es ++ Printed xs ∷ []) s i (λ a z fs. Q a z (Printed xs ∷ fs)) m h (next_more Q (Printed xs) es next) (broken_more Q (Printed xs) es broke)
  cut_then (plan.Take k) n es s i Q m h next broke =
      cut_then (k (first_of i)) (n (first_of i)) (es ++ Took (first_of i) ∷ []) s (rest_of i) (λ a z fs. Q a z (Took (first_of i) ∷ fs)) m h (next_more Q (Took (first_of i)) es next) (broken_more Q (Took (first_of i)) es broke)
  cut_then (plan.Within p at t k) n es s i Q m h next broke =
      go (run_of t s i).answer (run_back (steps_of t) (λ g. steps_of (k g)) s i (λ a z fs. Q a z (Arrived p ∷ fs)) m) h.2
      (λ g z j' q' a' next' broke'. cut_then (k g) (n g) (es ++ Arrived p ∷ (run_of t s i).trace) z j' (λ a y fs. Q a y (Arrived p ∷ ((run_of t s i).trace ++ fs))) q' a' next' broke')
    where
      joined : (fs : List Event) → (es ++ Arrived p ∷ (run_of t s i).trace) ++ fs ≡ es ++ Arrived p ∷ ((run_of t s i).trace ++ fs)
      joined fs = trace_assoc es (Arrived p ∷ (run_of t s i).trace) fs

      go : (a : Answer Flow) → Continues (λ g. steps_of (k g)) (λ c z fs. Q c z (Arrived p ∷ fs)) a (store_of (run_of t s i).memory) (run_of t s i).input (run_of t s i).trace → AtEnd a (store_of (run_of t s i).memory) (run_of t s i).input (λ g z j'. AtEach D (k g ▹ f) z j') →
          ((g : Flow) (z : Store) (j' : List Content) → Meets (λ c y fs. Q c y (Arrived p ∷ ((run_of t s i).trace ++ fs))) (run_of (k g) z j') → AtEach D (k g ▹ f) z j' → Next (λ c y fs. Q c y (Arrived p ∷ ((run_of t s i).trace ++ fs))) (es ++ Arrived p ∷ (run_of t s i).trace) → Broken (λ c y fs. Q c y (Arrived p ∷ ((run_of t s i).trace ++ fs))) (es ++ Arrived p ∷ (run_of t s i).trace) → AllAt P j (iterations_since b (es ++ Arrived p ∷ (run_of t s i).trace) (k g ▹ f) z j')) →
          AllAt P j (after_part a (λ g. iterations_since b (es ++ Arrived p ∷ (run_of t s i).trace) (k g ▹ f) (store_of (run_of t s i).memory) (run_of t s i).input) (λ c. record { start = b; did = es ++ Arrived p ∷ (run_of t s i).trace; ended = Broke c } ∷ []))
      go (Gave g) c e ih =
          ih g (store_of (run_of t s i).memory) (run_of t s i).input c e
          (λ g' z fs i' q w. subst (λ us. AllAt P j (iterations_since b us (f g') z i')) (sym (joined fs)) (next g' z (Arrived p ∷ ((run_of t s i).trace ++ fs)) i' q w))
          (λ c' z fs q. subst (λ us. P j (record { start = b; did = us; ended = Broke c' })) (sym (joined fs)) (broke c' z (Arrived p ∷ ((run_of t s i).trace ++ fs)) q))
      go (Broke d) c e ih = (broke d (store_of (run_of t s i).memory) (Arrived p ∷ (run_of t s i).trace) c, tt)

-- ---- before the first iteration

module _ (D : Claim) (P : List Iteration → Type 0) (none : P []) where
  -- what only looks
  pub cut_first : {A : Type 0} (t : Steps A) (f : A → Plan) (s : Store) (i : List Content) (Q : Answer A → List Event → Type 0) → Looked t s Q → AtEach D (first t f) s i → ((a : A) (es : List Event) → Q (Gave a) es → AtEach D (f a) s i → P (iterations (f a) s i)) → P (iterations (first t f) s i)
  cut_first (Done a) f s i Q h e next = next a [] h e
  cut_first (steps.Breaks b) f s i Q h e next = none
  cut_first (Look u k) f s i Q h e next = cut_first (k (s u)) f s i (λ a es. Q a (Read u (s u) ∷ es)) h e (λ a es q w. next a (Read u (s u) ∷ es) q w)
  cut_first (Set u c t) f s i Q h e next = absurd h
  cut_first (Hold u c t) f s i Q h e next = absurd h
  cut_first (Forget u t) f s i Q h e next = absurd h
  cut_first (Show xs t) f s i Q h e next = absurd h
  cut_first (Take k) f s i Q h e next = absurd h
  cut_first (Arrive p t) f s i Q h e next = absurd h
