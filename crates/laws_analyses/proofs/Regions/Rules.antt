-- The rules for plans: the claim of each execution in them, how they end, and what they did.
use Rattle.std.proofs.Common.{◌≡◌, ℕ, List, [], ◌∷◌, ◌++◌, Option, Some, None, refl, sym, ap, ◌∙◌, subst}
use Rattle.f77_ast.specs.Store.{Content, Store, put, undefined}
use Rattle.f77_ast.specs.Faults.{Fault}
use Rattle.f77_ast.specs.Steps.{Spot, Shown, Break, Faulty, Steps, Done, Look, Set, Hold, Forget, Show, Take, Arrive, ◌>>=◌}
use Rattle.f77_ast.specs.Steps as steps
use Rattle.f77_ast.specs.Runs.{Event, Arrived, Read, Wrote, Printed, Took, Answer, Gave, Broke, Whole, Ran, run, store_of, first_of, rest_of}
use Rattle.f77_ast.specs.Places.{Places}
use Rattle.f77_ast.specs.Writes.{Locks, written, write}
use Rattle.f77_ast.specs.Plans.{Flow, Plan, Within, ◌▹◌, first, steps_of}
use Rattle.f77_ast.specs.Plans as plan
use Rattle.f77_ast.specs.Executions.{run_of, AtEnd, Claim}
use Rattle.f77_meaning.specs.Occurrences.{places_in}
use Rattle.laws_analyses.specs.Statements.Good.{AtEach, Ending}
use Rattle.laws_analyses.proofs.Statements.Ends.{each_then}
use Rattle.laws_analyses.proofs.Regions.Traces.{trace_nil}
use Rattle.f77_ast.proofs.Shared.{bind_assoc as then_then, steps_then as plan_then}

-- how a run ended, with which store, and what it did
abbrev pub Post : Type 0 → Type 1
Post A = Answer A → Store → List Event → Type 0

abbrev pub Meets : {A : Type 0} → Post A → Ran A → Type 0
Meets Q q = Q q.answer (store_of q.memory) q.trace

-- ---- runs of one computation after another

-- what a run with an answer goes on with
abbrev OnAnswer : {A B : Type 0} → Answer A → (A → Answer B → Type 0) → Type 0
OnAnswer (Gave a) P = Unit {0}
OnAnswer (Broke b) P = Unit {0}

-- what the second computation does where the first has ended
abbrev pub Continues : {A B : Type 0} → (A → Steps B) → Post B → Answer A → Store → List Content → List Event → Type 0
Continues f Q (Gave a) z j es = Meets (λ b y fs. Q b y (es ++ fs)) (run (f a) (Whole z) j)
Continues f Q (Broke b) z j es = Q (Broke b) z es

abbrev pub On : {A : Type 0} → (Answer A → Store → List Content → List Event → Type 0) → Ran A → Type 0
On R q = R q.answer (store_of q.memory) q.input q.trace

pub run_then : {A B : Type 0} (t : Steps A) (f : A → Steps B) (s : Store) (i : List Content) (Q : Post B) → On (Continues f Q) (run t (Whole s) i) → Meets Q (run (t >>= f) (Whole s) i)
run_then (Done a) f s i Q h = h
run_then (steps.Breaks b) f s i Q h = h
run_then (Look u k) f s i Q h = run_then (k (s u)) f s i (λ b y fs. Q b y (Read u (s u) ∷ fs)) (shift (run (k (s u)) (Whole s) i) h)
  where
    shift : (q : Ran _) → On (λ a z j es. Continues f Q a z j (Read u (s u) ∷ es)) q → On (Continues f (λ b y fs. Q b y (Read u (s u) ∷ fs))) q
    shift q g = go q.answer g
      where
        go : (a : Answer _) → Continues f Q a (store_of q.memory) q.input (Read u (s u) ∷ q.trace) → Continues f (λ b y fs. Q b y (Read u (s u) ∷ fs)) a (store_of q.memory) q.input q.trace
        go (Gave a) g = g
        go (Broke b) g = g
run_then (Set u c t) f s i Q h = run_then t f (put s u c) i (λ b y fs. Q b y (Wrote u c ∷ fs)) (shift (run t (Whole (put s u c)) i) h)
  where
    shift : (q : Ran _) → On (λ a z j es. Continues f Q a z j (Wrote u c ∷ es)) q → On (Continues f (λ b y fs. Q b y (Wrote u c ∷ fs))) q
    shift q g = go q.answer g
      where
        go : (a : Answer _) → Continues f Q a (store_of q.memory) q.input (Wrote u c ∷ q.trace) → Continues f (λ b y fs. Q b y (Wrote u c ∷ fs)) a (store_of q.memory) q.input q.trace
        go (Gave a) g = g
        go (Broke b) g = g
run_then (Hold u c t) f s i Q h = run_then t f (put s u c) i Q h
run_then (Forget u t) f s i Q h = run_then t f (put s u (undefined (s u))) i Q h
run_then (Show xs t) f s i Q h = run_then t f s i (λ b y fs. Q b y (Printed xs ∷ fs)) (shift (run t (Whole s) i) h)
  where
    shift : (q : Ran _) → On (λ a z j es. Continues f Q a z j (Printed xs ∷ es)) q → On (Continues f (λ b y fs. Q b y (Printed xs ∷ fs))) q
    shift q g = go q.answer g
      where
        go : (a : Answer _) → Continues f Q a (store_of q.memory) q.input (Printed xs ∷ q.trace) → Continues f (λ b y fs. Q b y (Printed xs ∷ fs)) a (store_of q.memory) q.input q.trace
        go (Gave a) g = g
        go (Broke b) g = g
run_then (Take k) f s i Q h = run_then (k (first_of i)) f s (rest_of i) (λ b y fs. Q b y (Took (first_of i) ∷ fs)) (shift (run (k (first_of i)) (Whole s) (rest_of i)) h)
  where
    shift : (q : Ran _) → On (λ a z j es. Continues f Q a z j (Took (first_of i) ∷ es)) q → On (Continues f (λ b y fs. Q b y (Took (first_of i) ∷ fs))) q
    shift q g = go q.answer g
      where
        go : (a : Answer _) → Continues f Q a (store_of q.memory) q.input (Took (first_of i) ∷ q.trace) → Continues f (λ b y fs. Q b y (Took (first_of i) ∷ fs)) a (store_of q.memory) q.input q.trace
        go (Gave a) g = g
        go (Broke b) g = g
run_then (Arrive p t) f s i Q h = run_then t f s i (λ b y fs. Q b y (Arrived p ∷ fs)) (shift (run t (Whole s) i) h)
  where
    shift : (q : Ran _) → On (λ a z j es. Continues f Q a z j (Arrived p ∷ es)) q → On (Continues f (λ b y fs. Q b y (Arrived p ∷ fs))) q
    shift q g = go q.answer g
      where
        go : (a : Answer _) → Continues f Q a (store_of q.memory) q.input (Arrived p ∷ q.trace) → Continues f (λ b y fs. Q b y (Arrived p ∷ fs)) a (store_of q.memory) q.input q.trace
        go (Gave a) g = g
        go (Broke b) g = g

-- ---- plans as steps

-- ---- the rules

module _ (D : Claim) where
  -- the claim holds of each execution in the run on an input, and Q of how it ends
  pub record Fine (t : Plan) (s : Store) (i : List Content) (Q : Post Flow) : Type 0 where
    pub inside : AtEach D t s i
    pub ending : Meets Q (run_of t s i)

  abbrev pub Goes : Plan → Store → Post Flow → Type 0
  Goes t s Q = (i : List Content) → Fine t s i Q

  pub goes_ends : (f : Flow) (s : Store) (Q : Post Flow) → Q (Gave f) s [] → Goes (plan.Ends f) s Q
  goes_ends f s Q h i = record { inside = tt; ending = h }

  pub goes_breaks : (b : Break) (s : Store) (Q : Post Flow) → Q (Broke b) s [] → Goes (plan.Breaks b) s Q
  goes_breaks b s Q h i = record { inside = tt; ending = h }

  pub goes_look : (u : ℕ) (k : Content → Plan) (s : Store) (Q : Post Flow) → Goes (k (s u)) s (λ a z es. Q a z (Read u (s u) ∷ es)) → Goes (plan.Look u k) s Q
  goes_look u k s Q h i = let r = h i in record { inside = r.inside; ending = r.ending }

  pub goes_set : (u : ℕ) (c : Content) (t : Plan) (s : Store) (Q : Post Flow) → Goes t (put s u c) (λ a z es. Q a z (Wrote u c ∷ es)) → Goes (plan.Set u c t) s Q
  goes_set u c t s Q h i = let r = h i in record { inside = r.inside; ending = r.ending }

  pub goes_show : (xs : List Shown) (t : Plan) (s : Store) (Q : Post Flow) → Goes t s (λ a z es. Q a z (Printed xs ∷ es)) → Goes (plan.Show xs t) s Q
  goes_show xs t s Q h i = let r = h i in record { inside = r.inside; ending = r.ending }

  pub goes_take : (k : Option Content → Plan) (s : Store) (Q : Post Flow) → ((o : Option Content) → Goes (k o) s (λ a z es. Q a z (Took o ∷ es))) → Goes (plan.Take k) s Q
  goes_take k s Q h i = let r = h (first_of i) (rest_of i) in record { inside = r.inside; ending = r.ending }

  pub goes_more : (t : Plan) (s : Store) (Q R : Post Flow) → ((a : Answer Flow) (z : Store) (es : List Event) → Q a z es → R a z es) → Goes t s Q → Goes t s R
  goes_more t s Q R m h i = let r = h i in let q = run_of t s i in record { inside = r.inside; ending = m q.answer (store_of q.memory) q.trace r.ending }

  abbrev pub OnGave : Answer Flow → Store → (Flow → Store → Type 0) → Type 0
  OnGave (Gave f) z P = P f z
  OnGave (Broke b) z P = Unit {0}

  -- with what is known of the ends
  pub goes_with : (t : Plan) (s : Store) (Q : Post Flow) (P : Flow → Store → Type 0) → Goes t s Q → Ending t s P → Goes t s (λ a z es. Q a z es × OnGave a z P)
  goes_with t s Q P h e i = let r = h i in let q = run_of t s i in record { inside = r.inside; ending = (r.ending, go q.answer (e i)) }
    where
      go : (a : Answer Flow) → AtEnd a (store_of (run_of t s i).memory) (run_of t s i).input (λ f z j. P f z) → OnGave a (store_of (run_of t s i).memory) P
      go (Gave f) k = k
      go (Broke b) k = tt

  pub goes_then : (t : Plan) (f : Flow → Plan) (s : Store) (P Q : Post Flow) → Goes t s P → ((g : Flow) (z : Store) (es : List Event) → P (Gave g) z es → Goes (f g) z (λ a y fs. Q a y (es ++ fs))) → ((b : Break) (z : Store) (es : List Event) → P (Broke b) z es → Q (Broke b) z es) → Goes (t ▹ f) s Q
  goes_then t f s P Q h next broke i =
      let q = run_of t s i in
      let r = h i in
      record {
        inside = each_then D t f s i r.inside (rest q.answer r.ending);
        ending = subst (λ x. Meets Q (run x (Whole s) i)) (sym (plan_then t f)) (run_then (steps_of t) (λ g. steps_of (f g)) s i Q (end q.answer r.ending));
      }
    where
      rest : (a : Answer Flow) → P a (store_of (run_of t s i).memory) (run_of t s i).trace → AtEnd a (store_of (run_of t s i).memory) (run_of t s i).input (λ g z j. AtEach D (f g) z j)
      rest (Gave g) p = (next g (store_of (run_of t s i).memory) (run_of t s i).trace p (run_of t s i).input).inside
      rest (Broke b) p = tt

      end : (a : Answer Flow) → P a (store_of (run_of t s i).memory) (run_of t s i).trace → Continues (λ g. steps_of (f g)) Q a (store_of (run_of t s i).memory) (run_of t s i).input (run_of t s i).trace
      end (Gave g) p = (next g (store_of (run_of t s i).memory) (run_of t s i).trace p (run_of t s i).input).ending
      end (Broke b) p = broke b (store_of (run_of t s i).memory) (run_of t s i).trace p

  -- an execution of a statement
  pub goes_at : (p : Spot) (at : Places) (t : Plan) (s : Store) (P Q : Post Flow) → Goes t s P → ((i : List Content) → Meets P (run_of t s i) → D p (places_in p.statement t s i at) s (run_of t s i)) → ((a : Answer Flow) (z : Store) (es : List Event) → P a z es → Q a z (Arrived p ∷ es)) → Goes (Within p at t (λ f. plan.Ends f)) s Q
  goes_at p at t s P Q h claim more_q i =
      let q = run_of t s i in
      let r = h i in
      record {
        inside = (claim i r.ending, r.inside, nothing q.answer);
        ending = run_then (steps_of t) (λ f. Done f) s i (λ a z es. Q a z (Arrived p ∷ es)) (end q.answer (more_q q.answer (store_of q.memory) q.trace r.ending));
      }
    where
      nothing : (a : Answer Flow) → AtEnd a (store_of (run_of t s i).memory) (run_of t s i).input (λ f z j. Unit {0})
      nothing (Gave f) = tt
      nothing (Broke b) = tt

      end : (a : Answer Flow) → Q a (store_of (run_of t s i).memory) (Arrived p ∷ (run_of t s i).trace) → Continues (λ f. Done f) (λ b z es. Q b z (Arrived p ∷ es)) a (store_of (run_of t s i).memory) (run_of t s i).input (run_of t s i).trace
      end (Gave f) k = subst (λ es. Q (Gave f) (store_of (run_of t s i).memory) (Arrived p ∷ es)) (sym (trace_nil (run_of t s i).trace)) k
      end (Broke b) k = k

  -- a write: of a unit that is not locked, or a fault
  pub goes_write : (locked : Locks) (u : ℕ) (c : Content) (f : Unit {0} → Plan) (s : Store) (Q : Post Flow) → (locked u ≡ None → Goes (f tt) (put s u c) (λ a z es. Q a z (Wrote u c ∷ es))) → ((b : Break) → Q (Broke b) s []) → Goes (first (write locked u c) f) s Q
  goes_write locked u c f s Q h broke = go (locked u) refl
    where
      go : (o : Option Fault) → locked u ≡ o → Goes (first (written o u c) f) s Q
      go None e = goes_set u c (f tt) s Q (h e)
      go (Some g) e = goes_breaks (Faulty g) s Q (broke (Faulty g))
