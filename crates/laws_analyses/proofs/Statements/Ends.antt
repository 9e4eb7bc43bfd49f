-- How plans end that are put together, and the executions in them.
use Rattle.std.proofs.Common.{List}
use Rattle.f77_ast.specs.Store.{Content, Store, put, undefined}
use Rattle.f77_ast.specs.Steps.{Steps, Done, Breaks, Look, Set, Hold, Forget, Show, Take, Arrive, ◌>>=◌}
use Rattle.f77_ast.specs.Runs.{Answer, Gave, Broke, Ran, first_of, rest_of, store_of}
use Rattle.f77_ast.specs.Plans.{Flow, Plan, ◌▹◌, first, steps_of}
use Rattle.f77_ast.specs.Plans as plan
use Rattle.f77_ast.specs.Executions.{run_of, AtEnd, AtEndOf, Claim}
use Rattle.f77_ast.proofs.StepLaws.{Leads, leads_then, first_leads, at_end_more}
use Rattle.f77_meaning.specs.Occurrences.{Occurrence, Onward, Throughout, events_from, events_after}
use Rattle.laws_analyses.specs.Statements.Good.{AtEach, said}

pub more : {A : Type 0} (q : Ran A) (P Q : A → Store → List Content → Type 0) → ((x : A) (z : Store) (j : List Content) → P x z j → Q x z j) → AtEndOf q P → AtEndOf q Q
more q P Q m h = at_end_more q.answer (store_of q.memory) q.input P Q m h

at_end_both : {A : Type 0} (a : Answer A) (s : Store) (i : List Content) (P Q R : A → Store → List Content → Type 0) → ((x : A) (z : Store) (j : List Content) → P x z j → Q x z j → R x z j) → AtEnd a s i P → AtEnd a s i Q → AtEnd a s i R
at_end_both (Gave a) s i P Q R m p q = m a s i p q
at_end_both (Broke b) s i P Q R m p q = tt

pub both : {A : Type 0} (q : Ran A) (P Q R : A → Store → List Content → Type 0) → ((x : A) (z : Store) (j : List Content) → P x z j → Q x z j → R x z j) → AtEndOf q P → AtEndOf q Q → AtEndOf q R
both q P Q R m h g = at_end_both q.answer (store_of q.memory) q.input P Q R m h g

-- the other way round than leads_then
pub leads_parts : {A B : Type 0} (t : Steps A) (f : A → Steps B) (s : Store) (i : List Content) (Q : B → Store → List Content → Type 0) → Leads (t >>= f) s i Q → Leads t s i (λ a z j. Leads (f a) z j Q)
leads_parts (Done a) f s i Q h = h
leads_parts (Breaks b) f s i Q h = tt
leads_parts (Look u k) f s i Q h = leads_parts (k (s u)) f s i Q h
leads_parts (Set u c t) f s i Q h = leads_parts t f (put s u c) i Q h
leads_parts (Hold u c t) f s i Q h = leads_parts t f (put s u c) i Q h
leads_parts (Forget u t) f s i Q h = leads_parts t f (put s u (undefined (s u))) i Q h
leads_parts (Show xs t) f s i Q h = leads_parts t f s i Q h
leads_parts (Take k) f s i Q h = leads_parts (k (first_of i)) f s (rest_of i) Q h
leads_parts (Arrive p t) f s i Q h = leads_parts t f s i Q h

-- one plan after the other
pub ends_then : (t : Plan) (f : Flow → Plan) (s : Store) (i : List Content) (Q : Flow → Store → List Content → Type 0) → AtEndOf (run_of t s i) (λ g z j. AtEndOf (run_of (f g) z j) Q) → AtEndOf (run_of (t ▹ f) s i) Q
ends_then (plan.Ends g) f s i Q h = h
ends_then (plan.Breaks b) f s i Q h = tt
ends_then (plan.Look u k) f s i Q h = ends_then (k (s u)) f s i Q h
ends_then (plan.Set u c t) f s i Q h = ends_then t f (put s u c) i Q h
ends_then (plan.Hold u c t) f s i Q h = ends_then t f (put s u c) i Q h
ends_then (plan.Forget u t) f s i Q h = ends_then t f (put s u (undefined (s u))) i Q h
ends_then (plan.Show xs t) f s i Q h = ends_then t f s i Q h
ends_then (plan.Take k) f s i Q h = ends_then (k (first_of i)) f s (rest_of i) Q h
ends_then (plan.Within p at t k) f s i Q h =
    leads_then (steps_of t) (λ g. steps_of (k g ▹ f)) s i Q
    (more (run_of t s i) (λ g z j. Leads (steps_of (k g)) z j (λ x y l. AtEndOf (run_of (f x) y l) Q)) (λ g z j. Leads (steps_of (k g ▹ f)) z j Q) (λ g z j e. ends_then (k g) f z j Q e)
    (leads_parts (steps_of t) (λ g. steps_of (k g)) s i (λ x y l. AtEndOf (run_of (f x) y l) Q) h))

pub each_then : (C : Claim) (t : Plan) (f : Flow → Plan) (s : Store) (i : List Content) → AtEach C t s i → AtEndOf (run_of t s i) (λ g z j. AtEach C (f g) z j) → AtEach C (t ▹ f) s i
each_then C (plan.Ends g) f s i h n = n
each_then C (plan.Breaks b) f s i h n = tt
each_then C (plan.Look u k) f s i h n = each_then C (k (s u)) f s i h n
each_then C (plan.Set u c t) f s i h n = each_then C t f (put s u c) i h n
each_then C (plan.Hold u c t) f s i h n = each_then C t f (put s u c) i h n
each_then C (plan.Forget u t) f s i h n = each_then C t f (put s u (undefined (s u))) i h n
each_then C (plan.Show xs t) f s i h n = each_then C t f s i h n
each_then C (plan.Take k) f s i h n = each_then C (k (first_of i)) f s (rest_of i) h n
each_then C (plan.Within p at t k) f s i h n = (
  h.0,
  h.1,
  both (run_of t s i) (λ g z j. AtEach C (k g) z j) (λ g z j. Leads (steps_of (k g)) z j (λ x y l. AtEach C (f x) y l)) (λ g z j. AtEach C (k g ▹ f) z j) (λ g z j a b. each_then C (k g) f z j a b) h.2
      (leads_parts (steps_of t) (λ g. steps_of (k g)) s i (λ x y l. AtEach C (f x) y l) n),
)

-- the steps before a plan arrive nowhere
pub each_first : {A : Type 0} (C : Claim) (t : Steps A) (f : A → Plan) (s : Store) (i : List Content) → Leads t s i (λ a z j. AtEach C (f a) z j) → AtEach C (first t f) s i
each_first C (Done a) f s i h = h
each_first C (Breaks b) f s i h = tt
each_first C (Look u k) f s i h = each_first C (k (s u)) f s i h
each_first C (Set u c t) f s i h = each_first C t f (put s u c) i h
each_first C (Hold u c t) f s i h = each_first C t f (put s u c) i h
each_first C (Forget u t) f s i h = each_first C t f (put s u (undefined (s u))) i h
each_first C (Show xs t) f s i h = each_first C t f s i h
each_first C (Take k) f s i h = each_first C (k (first_of i)) f s (rest_of i) h
each_first C (Arrive p t) f s i h = each_first C t f s i h

-- a claim that does not depend on what comes later holds throughout
pub throughout : (C : Occurrence → Type 0) (t : Plan) (s : Store) (i : List Content) (onward : Onward) → AtEach (said C) t s i → Throughout C t s i onward
throughout C (plan.Ends f) s i onward h = tt
throughout C (plan.Breaks b) s i onward h = tt
throughout C (plan.Look u k) s i onward h = throughout C (k (s u)) s i onward h
throughout C (plan.Set u c t) s i onward h = throughout C t (put s u c) i onward h
throughout C (plan.Hold u c t) s i onward h = throughout C t (put s u c) i onward h
throughout C (plan.Forget u t) s i onward h = throughout C t (put s u (undefined (s u))) i onward h
throughout C (plan.Show xs t) s i onward h = throughout C t s i onward h
throughout C (plan.Take k) s i onward h = throughout C (k (first_of i)) s (rest_of i) onward h
throughout C (plan.Within p at t k) s i onward h = (
  h.0 (events_after (run_of t s i) (λ f z j. events_from (k f) onward z j)),
  throughout C t s i (λ f z j. events_from (k f) onward z j) h.1,
  more (run_of t s i) (λ f z j. AtEach (said C) (k f) z j) (λ f z j. Throughout C (k f) z j onward) (λ f z j e. throughout C (k f) z j onward e) h.2,
)
