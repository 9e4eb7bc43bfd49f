-- What holds at the end of steps, of plans, and at executions.
use Rattle.std.proofs.Common.{List}
use Rattle.f77_ast.specs.Store.{Content, Store, put, undefined}
use Rattle.f77_ast.specs.Steps.{Steps, Done, Breaks, Look, Set, Hold, Forget, Show, Take, Arrive, ◌>>=◌}
use Rattle.f77_ast.specs.Runs.{Answer, Gave, Broke, Whole, run, store_of, first_of, rest_of}
use Rattle.f77_ast.specs.Plans.{Flow, Plan, first, steps_of}
use Rattle.f77_ast.specs.Executions.{AtEnd, AtEndOf, Claim, Executions}

-- Q holds where the steps end, begun with the store and the input
abbrev pub Leads : {A : Type 0} → Steps A → Store → List Content → (A → Store → List Content → Type 0) → Type 0
Leads t s i Q = AtEndOf (run t (Whole s) i) Q

pub at_end_more : {A : Type 0} (a : Answer A) (s : Store) (i : List Content) (P Q : A → Store → List Content → Type 0) → ((x : A) (z : Store) (j : List Content) → P x z j → Q x z j) → AtEnd a s i P → AtEnd a s i Q
at_end_more (Gave a) s i P Q m h = m a s i h
at_end_more (Broke b) s i P Q m h = tt

pub leads_then : {A B : Type 0} (t : Steps A) (f : A → Steps B) (s : Store) (i : List Content) (Q : B → Store → List Content → Type 0) → Leads t s i (λ a z j. Leads (f a) z j Q) → Leads (t >>= f) s i Q
leads_then (Done a) f s i Q h = h
leads_then (Breaks b) f s i Q h = tt
leads_then (Look u k) f s i Q h = leads_then (k (s u)) f s i Q h
leads_then (Set u c t) f s i Q h = leads_then t f (put s u c) i Q h
leads_then (Hold u c t) f s i Q h = leads_then t f (put s u c) i Q h
leads_then (Forget u t) f s i Q h = leads_then t f (put s u (undefined (s u))) i Q h
leads_then (Show xs t) f s i Q h = leads_then t f s i Q h
leads_then (Take k) f s i Q h = leads_then (k (first_of i)) f s (rest_of i) Q h
leads_then (Arrive p t) f s i Q h = leads_then t f s i Q h

pub first_leads : {A : Type 0} (t : Steps A) (f : A → Plan) (s : Store) (i : List Content) (Q : Flow → Store → List Content → Type 0) → Leads t s i (λ a z j. Leads (steps_of (f a)) z j Q) → Leads (steps_of (first t f)) s i Q
first_leads (Done a) f s i Q h = h
first_leads (Breaks b) f s i Q h = tt
first_leads (Look u k) f s i Q h = first_leads (k (s u)) f s i Q h
first_leads (Set u c t) f s i Q h = first_leads t f (put s u c) i Q h
first_leads (Hold u c t) f s i Q h = first_leads t f (put s u c) i Q h
first_leads (Forget u t) f s i Q h = first_leads t f (put s u (undefined (s u))) i Q h
first_leads (Show xs t) f s i Q h = first_leads t f s i Q h
first_leads (Take k) f s i Q h = first_leads (k (first_of i)) f s (rest_of i) Q h
first_leads (Arrive p t) f s i Q h = first_leads t f s i Q h

-- the steps before a plan arrive nowhere
pub first_executions : {A : Type 0} (C : Claim) (t : Steps A) (f : A → Plan) (s : Store) (i : List Content) → Leads t s i (λ a z j. Executions C (f a) z j) → Executions C (first t f) s i
first_executions C (Done a) f s i h = h
first_executions C (Breaks b) f s i h = tt
first_executions C (Look u k) f s i h = first_executions C (k (s u)) f s i h
first_executions C (Set u c t) f s i h = first_executions C t f (put s u c) i h
first_executions C (Hold u c t) f s i h = first_executions C t f (put s u c) i h
first_executions C (Forget u t) f s i h = first_executions C t f (put s u (undefined (s u))) i h
first_executions C (Show xs t) f s i h = first_executions C t f s i h
first_executions C (Take k) f s i h = first_executions C (k (first_of i)) f s (rest_of i) h
first_executions C (Arrive p t) f s i h = first_executions C t f s i h

pub at_end_true : {A : Type 0} (a : Answer A) (s : Store) (i : List Content) → AtEnd a s i (λ x z j. Unit {0})
at_end_true (Gave a) s i = tt
at_end_true (Broke b) s i = tt

pub leads_true : {A : Type 0} (t : Steps A) (s : Store) (i : List Content) → Leads t s i (λ x z j. Unit {0})
leads_true t s i = let q = run t (Whole s) i in at_end_true q.answer (store_of q.memory) q.input
