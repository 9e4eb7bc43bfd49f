-- The rules for claims of executions with their plans.
use Rattle.std.proofs.Common.{ℕ, List, [], ◌∷◌}
use Rattle.f77_ast.specs.Store.{Content, Store, put, undefined}
use Rattle.f77_ast.specs.Steps.{Steps, Done, Breaks, Look, Set, Hold, Forget, Show, Take, Arrive}
use Rattle.f77_ast.specs.Steps as steps
use Rattle.f77_ast.specs.Runs.{Event, Read, Answer, Gave, first_of, rest_of, store_of}
use Rattle.f77_ast.specs.Plans.{Flow, Normal, Jump, Returned, Stopped, Plan, ◌▹◌, first, steps_of}
use Rattle.f77_ast.specs.Plans as plan
use Rattle.f77_ast.specs.Calls.{forget_all, after_call}
use Rattle.f77_ast.specs.Executions.{run_of, AtEndOf, Claim}
use Rattle.f77_ast.proofs.StepLaws.{Leads, at_end_true}
use Rattle.f77_meaning.specs.Occurrences.{Occurrence, Onward, Throughout, events_from}
use Rattle.laws_analyses.specs.Statements.Good.{AtEach}
use Rattle.laws_analyses.proofs.Statements.Ends.{both, more, leads_parts}
use Rattle.laws_analyses.proofs.Regions.Looks.{Looked}
use Rattle.laws_analyses.proofs.Regions.Rules.{Post}
use Rattle.laws_analyses.proofs.Regions.Storing.{Holding}
use Rattle.laws_marks.specs.ConflictExecutions.{Execution, AtEachExecution}

module _ (C : Execution → Type 0) where
  pub plan_then : (t : Plan) (f : Flow → Plan) (s : Store) (i : List Content) → AtEachExecution C t s i → AtEndOf (run_of t s i) (λ g z j. AtEachExecution C (f g) z j) → AtEachExecution C (t ▹ f) s i
  plan_then (plan.Ends g) f s i h n = n
  plan_then (plan.Breaks b) f s i h n = tt
  plan_then (plan.Look u k) f s i h n = plan_then (k (s u)) f s i h n
  plan_then (plan.Set u c t) f s i h n = plan_then t f (put s u c) i h n
  plan_then (plan.Hold u c t) f s i h n = plan_then t f (put s u c) i h n
  plan_then (plan.Forget u t) f s i h n = plan_then t f (put s u (undefined (s u))) i h n
  plan_then (plan.Show xs t) f s i h n = plan_then t f s i h n
  plan_then (plan.Take k) f s i h n = plan_then (k (first_of i)) f s (rest_of i) h n
  plan_then (plan.Within p at t k) f s i h n = (
    h.0,
    h.1,
    both (run_of t s i) (λ g z j. AtEachExecution C (k g) z j) (λ g z j. Leads (steps_of (k g)) z j (λ x y l. AtEachExecution C (f x) y l)) (λ g z j. AtEachExecution C (k g ▹ f) z j) (λ g z j a b. plan_then (k g) f z j a b) h.2
        (leads_parts (steps_of t) (λ g. steps_of (k g)) s i (λ x y l. AtEachExecution C (f x) y l) n),
  )

  -- the steps before a plan arrive nowhere
  pub plan_first : {A : Type 0} (t : Steps A) (f : A → Plan) (s : Store) (i : List Content) → Leads t s i (λ a z j. AtEachExecution C (f a) z j) → AtEachExecution C (first t f) s i
  plan_first (Done a) f s i h = h
  plan_first (Breaks b) f s i h = tt
  plan_first (Look u k) f s i h = plan_first (k (s u)) f s i h
  plan_first (Set u c t) f s i h = plan_first t f (put s u c) i h
  plan_first (Hold u c t) f s i h = plan_first t f (put s u c) i h
  plan_first (Forget u t) f s i h = plan_first t f (put s u (undefined (s u))) i h
  plan_first (Show xs t) f s i h = plan_first t f s i h
  plan_first (Take k) f s i h = plan_first (k (first_of i)) f s (rest_of i) h
  plan_first (Arrive p t) f s i h = plan_first t f s i h

  -- steps that only look
  pub plan_looked : {A : Type 0} (t : Steps A) (f : A → Plan) (s : Store) (i : List Content) (Q : Answer A → List Event → Type 0) → Looked t s Q → ((a : A) (es : List Event) → Q (Gave a) es → AtEachExecution C (f a) s i) → AtEachExecution C (first t f) s i
  plan_looked (Done a) f s i Q h next = next a [] h
  plan_looked (Breaks b) f s i Q h next = tt
  plan_looked (Look u k) f s i Q h next = plan_looked (k (s u)) f s i (λ a es. Q a (Read u (s u) ∷ es)) h (λ a es q. next a (Read u (s u) ∷ es) q)
  plan_looked (Set u c t) f s i Q h next = absurd h
  plan_looked (Hold u c t) f s i Q h next = absurd h
  plan_looked (Forget u t) f s i Q h next = absurd h
  plan_looked (Show xs t) f s i Q h next = absurd h
  plan_looked (Take k) f s i Q h next = absurd h
  plan_looked (Arrive p t) f s i Q h next = absurd h

  -- steps that look and hold
  pub plan_holding : {A : Type 0} (t : Steps A) (f : A → Plan) (s : Store) (i : List Content) (Q : Post A) → Holding t s Q → ((a : A) (z : Store) (es : List Event) → Q (Gave a) z es → AtEachExecution C (f a) z i) → AtEachExecution C (first t f) s i
  plan_holding (Done a) f s i Q h next = next a s [] h
  plan_holding (Breaks b) f s i Q h next = tt
  plan_holding (Look u k) f s i Q h next = plan_holding (k (s u)) f s i (λ a z es. Q a z (Read u (s u) ∷ es)) h (λ a z es q. next a z (Read u (s u) ∷ es) q)
  plan_holding (Set u c t) f s i Q h next = absurd h
  plan_holding (Hold u c t) f s i Q h next = plan_holding t f (put s u c) i Q h next
  plan_holding (Forget u t) f s i Q h next = absurd h
  plan_holding (Show xs t) f s i Q h next = absurd h
  plan_holding (Take k) f s i Q h next = absurd h
  plan_holding (Arrive p t) f s i Q h next = absurd h

  pub plan_forget : (us : List ℕ) (t : Plan) (s : Store) (i : List Content) → ((z : Store) → AtEachExecution C t z i) → AtEachExecution C (forget_all us t) s i
  plan_forget [] t s i h = h s
  plan_forget (u ∷ us) t s i h = plan_forget us t (put s u (undefined (s u))) i h

  pub plan_after : (us : List ℕ) (f : Flow) (s : Store) (i : List Content) → AtEachExecution C (after_call us f) s i
  plan_after us Normal s i = plan_forget us (plan.Ends Normal) s i (λ z. tt)
  plan_after us (Jump l) s i = tt
  plan_after us Returned s i = plan_forget us (plan.Ends Normal) s i (λ z. tt)
  plan_after us Stopped s i = tt

  -- what comes after a call has no executions
  pub plan_called : (t : Plan) (us : List ℕ) (s : Store) (i : List Content) → AtEachExecution C t s i → AtEachExecution C (t ▹ after_call us) s i
  plan_called t us s i h = plan_then t (after_call us) s i h (more (run_of t s i) (λ g z j. Unit {0}) (λ g z j. AtEachExecution C (after_call us g) z j) (λ g z j u. plan_after us g z j) (at_end_true (run_of t s i).answer (store_of (run_of t s i).memory) (run_of t s i).input))

-- ---- with what is claimed of the executions in it

module _ (D : Claim) (C : Execution → Type 0) where
  abbrev pub Given : Execution → Type 0
  Given x = AtEach D x.does x.start x.input → C x

  pub with_each : (t : Plan) (s : Store) (i : List Content) → AtEachExecution Given t s i → AtEach D t s i → AtEachExecution C t s i
  with_each (plan.Ends f) s i h e = tt
  with_each (plan.Breaks b) s i h e = tt
  with_each (plan.Look u k) s i h e = with_each (k (s u)) s i h e
  with_each (plan.Set u c t) s i h e = with_each t (put s u c) i h e
  with_each (plan.Hold u c t) s i h e = with_each t (put s u c) i h e
  with_each (plan.Forget u t) s i h e = with_each t (put s u (undefined (s u))) i h e
  with_each (plan.Show xs t) s i h e = with_each t s i h e
  with_each (plan.Take k) s i h e = with_each (k (first_of i)) s (rest_of i) h e
  with_each (plan.Within p at t k) s i h e = (
    h.0 e.1,
    with_each t s i h.1 e.1,
    both (run_of t s i) (λ f z j. AtEachExecution Given (k f) z j) (λ f z j. AtEach D (k f) z j) (λ f z j. AtEachExecution C (k f) z j) (λ f z j a b. with_each (k f) z j a b) h.2 e.2,
  )

-- ---- a weaker claim

pub plan_more : (C B : Execution → Type 0) → ((x : Execution) → C x → B x) → (t : Plan) (s : Store) (i : List Content) → AtEachExecution C t s i → AtEachExecution B t s i
plan_more C B m (plan.Ends f) s i h = tt
plan_more C B m (plan.Breaks b) s i h = tt
plan_more C B m (plan.Look u k) s i h = plan_more C B m (k (s u)) s i h
plan_more C B m (plan.Set u c t) s i h = plan_more C B m t (put s u c) i h
plan_more C B m (plan.Hold u c t) s i h = plan_more C B m t (put s u c) i h
plan_more C B m (plan.Forget u t) s i h = plan_more C B m t (put s u (undefined (s u))) i h
plan_more C B m (plan.Show xs t) s i h = plan_more C B m t s i h
plan_more C B m (plan.Take k) s i h = plan_more C B m (k (first_of i)) s (rest_of i) h
plan_more C B m (plan.Within p at t k) s i h = (
  m (record { spot = p; places = at; does = t; start = s; input = i }) h.0,
  plan_more C B m t s i h.1,
  more (run_of t s i) (λ f z j. AtEachExecution C (k f) z j) (λ f z j. AtEachExecution B (k f) z j) (λ f z j a. plan_more C B m (k f) z j a) h.2,
)

-- ---- claims of occurrences, whatever comes later

abbrev pub told : (Occurrence → Type 0) → Claim
told C p at s q = (later : List Event) × C (record { spot = p; places = at; start = s; ran = q; later = later })

pub told_each : (C : Occurrence → Type 0) (t : Plan) (s : Store) (i : List Content) (onward : Onward) → Throughout C t s i onward → AtEach (told C) t s i
told_each C (plan.Ends f) s i onward h = tt
told_each C (plan.Breaks b) s i onward h = tt
told_each C (plan.Look u k) s i onward h = told_each C (k (s u)) s i onward h
told_each C (plan.Set u c t) s i onward h = told_each C t (put s u c) i onward h
told_each C (plan.Hold u c t) s i onward h = told_each C t (put s u c) i onward h
told_each C (plan.Forget u t) s i onward h = told_each C t (put s u (undefined (s u))) i onward h
told_each C (plan.Show xs t) s i onward h = told_each C t s i onward h
told_each C (plan.Take k) s i onward h = told_each C (k (first_of i)) s (rest_of i) onward h
told_each C (plan.Within p at t k) s i onward h = (
  (_, h.0),
  told_each C t s i (λ f z j. events_from (k f) onward z j) h.1,
  more (run_of t s i) (λ f z j. Throughout C (k f) z j onward) (λ f z j. AtEach (told C) (k f) z j) (λ f z j a. told_each C (k f) z j onward a) h.2,
)
