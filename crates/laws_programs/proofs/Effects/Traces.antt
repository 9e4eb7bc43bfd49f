-- What a run of such a plan does.
use Rattle.std.proofs.Common.{◌≡◌, ℕ, ◌⊎◌, inl, inr, Bool, true, false, List, [], ◌∷◌, refl, subst}
use Rattle.std.specs.Prelude.{nat_eq, ◌||◌}
use Rattle.std.proofs.lemmas.Bool.{eqb-true}
use Rattle.f77_ast.specs.Store.{Content, Store, put, undefined}
use Rattle.f77_ast.specs.Steps.{Spot, Shown, Steps, ◌>>=◌}
use Rattle.f77_ast.specs.Steps as steps
use Rattle.f77_ast.specs.Runs.{Event, Arrived, Read, Wrote, Printed, Took, Answer, Gave, Broke, Ran, Whole, run, after_event, store_of, first_of, rest_of}
use Rattle.f77_ast.specs.Plans.{Flow, Plan, Ends, Breaks, Look, Set, Hold, Forget, Show, Take, Within, steps_of}
use Rattle.f77_ast.specs.Executions.{run_of, AtEnd}
use Rattle.f77_meaning.specs.Occurrences.{Occurrence, Onward, Throughout, events_from, events_after}
use Rattle.f77_meaning.specs.Accesses.{is_read, is_written}
use Rattle.laws_programs.specs.Effects.Claims.{has_io}
use Rattle.laws_programs.proofs.Effects.Access.{Reading, Writing, Talking, Allowed, Sub, EndsIn, Passing, Under, into_under, under_more, ends_more, ends_under}
use Rattle.laws_programs.proofs.Effects.Fine.{Fine}

-- the accesses of the run from the store on the input are allowed
abbrev pub Along : Steps Flow → Passing → Allowed → Store → List Content → Type 0
Along (steps.Done f) L A s i = EndsIn A f
Along (steps.Breaks b) L A s i = Unit {0}
Along (steps.Look u k) L A s i = A (Reading u) × Along (k (s u)) L A s i
Along (steps.Set u c t) L A s i = A (Writing u) × Along t L A (put s u c) i
Along (steps.Hold u c t) L A s i = Along t L A (put s u c) i
Along (steps.Forget u t) L A s i = Along t L A (put s u (undefined (s u))) i
Along (steps.Show xs t) L A s i = A Talking × Along t L A s i
Along (steps.Take k) L A s i = A Talking × Along (k (first_of i)) L A s (rest_of i)
Along (steps.Arrive p t) L A s i = Along t L (Under L p A) s i

module _ (L : Passing) where
  pub along_more : (m : Steps Flow) (A B : Allowed) → Sub A B → (s : Store) (i : List Content) → Along m L A s i → Along m L B s i
  along_more (steps.Done f) A B sub s i h = ends_more A B sub f h
  along_more (steps.Breaks b) A B sub s i h = tt
  along_more (steps.Look u k) A B sub s i h = (sub (Reading u) h.0, along_more (k (s u)) A B sub s i h.1)
  along_more (steps.Set u c t) A B sub s i h = (sub (Writing u) h.0, along_more t A B sub (put s u c) i h.1)
  along_more (steps.Hold u c t) A B sub s i h = along_more t A B sub (put s u c) i h
  along_more (steps.Forget u t) A B sub s i h = along_more t A B sub (put s u (undefined (s u))) i h
  along_more (steps.Show xs t) A B sub s i h = (sub Talking h.0, along_more t A B sub s i h.1)
  along_more (steps.Take k) A B sub s i h = (sub Talking h.0, along_more (k (first_of i)) A B sub s (rest_of i) h.1)
  along_more (steps.Arrive p t) A B sub s i h = along_more t (Under L p A) (Under L p B) (under_more L p A B sub) s i h

  along_bind : (m : Steps Flow) (f : Flow → Steps Flow) (A : Allowed) (s : Store) (i : List Content) → Along m L A s i → ((g : Flow) (z : Store) (j : List Content) → EndsIn A g → Along (f g) L A z j) → Along (m >>= f) L A s i
  along_bind (steps.Done g) f A s i h more = more g s i h
  along_bind (steps.Breaks b) f A s i h more = tt
  along_bind (steps.Look u k) f A s i h more = (h.0, along_bind (k (s u)) f A s i h.1 more)
  along_bind (steps.Set u c t) f A s i h more = (h.0, along_bind t f A (put s u c) i h.1 more)
  along_bind (steps.Hold u c t) f A s i h more = along_bind t f A (put s u c) i h more
  along_bind (steps.Forget u t) f A s i h more = along_bind t f A (put s u (undefined (s u))) i h more
  along_bind (steps.Show xs t) f A s i h more = (h.0, along_bind t f A s i h.1 more)
  along_bind (steps.Take k) f A s i h more = (h.0, along_bind (k (first_of i)) f A s (rest_of i) h.1 more)
  along_bind (steps.Arrive p t) f A s i h more =
      along_bind t f (Under L p A) s i h (λ g z j e. along_more (f g) A (Under L p A) (into_under L p A) z j (more g z j (ends_under L p A g e)))

  pub fine_along : (C : Occurrence → Type 0) (t : Plan) (A : Allowed) → Fine t L C A → (s : Store) (i : List Content) → Along (steps_of t) L A s i
  fine_along C (Ends f) A h s i = h
  fine_along C (Breaks b) A h s i = tt
  fine_along C (Look u k) A h s i = (h.0, fine_along C (k (s u)) A (h.1 (s u)) s i)
  fine_along C (Set u c t) A h s i = (h.0, fine_along C t A h.1 (put s u c) i)
  fine_along C (Hold u c t) A h s i = fine_along C t A h (put s u c) i
  fine_along C (Forget u t) A h s i = fine_along C t A h (put s u (undefined (s u))) i
  fine_along C (Show xs t) A h s i = (h.0, fine_along C t A h.1 s i)
  fine_along C (Take k) A h s i = (h.0, fine_along C (k (first_of i)) A (h.1 (first_of i)) s (rest_of i))
  fine_along C (Within p at t k) A h s i =
      along_bind (steps_of t) (λ g. steps_of (k g)) (Under L p A) s i (fine_along C t (Under L p A) h.1 s i)
      (λ g z j e. along_more (steps_of (k g)) A (Under L p A) (into_under L p A) z j (fine_along C (k g) A (h.2 g (ends_under L p A g e)) z j))

-- ---- traces

-- a unit passes away with an activation that the trace enters
abbrev pub Lost : Passing → List Event → ℕ → Type 0
Lost L [] u = ⊥
Lost L (Arrived p ∷ es) u = L p u ⊎ Lost L es u
Lost L (Read v c ∷ es) u = Lost L es u
Lost L (Wrote v c ∷ es) u = Lost L es u
Lost L (Printed xs ∷ es) u = Lost L es u
Lost L (Took o ∷ es) u = Lost L es u

abbrev pub AnswerIn : Allowed → Answer Flow → Type 0
AnswerIn A (Gave f) = EndsIn A f
AnswerIn A (Broke b) = Unit {0}

pub record Traced (L : Passing) (A : Allowed) (q : Ran Flow) : Type 0 where
  pub reads : (u : ℕ) → is_read u q.trace ≡ true → A (Reading u) ⊎ Lost L q.trace u
  pub writes : (u : ℕ) → is_written u q.trace ≡ true → A (Writing u) ⊎ Lost L q.trace u
  pub talks : has_io q.trace ≡ true → A Talking
  pub ends : AnswerIn A q.answer

-- the event's own unit, or what the rest says
by_unit : (P : ℕ → Type 0) (v u : ℕ) (rest : Bool) (Q : Type 0) → P v → (rest ≡ true → P u ⊎ Q) → (nat_eq v u || rest) ≡ true → P u ⊎ Q
by_unit P v u rest Q own more e = go (nat_eq v u) refl e
  where
    go : (b : Bool) → nat_eq v u ≡ b → (b || rest) ≡ true → P u ⊎ Q
    go true q h = inl (subst P (eqb-true v u q) own)
    go false q h = more h

module _ (L : Passing) where
  after_read : (A : Allowed) (v : ℕ) (c : Content) (q : Ran Flow) → A (Reading v) → Traced L A q → Traced L A (after_event (Read v c) q)
  after_read A v c q own h = record { reads = λ u e. by_unit (λ w. A (Reading w)) v u (is_read u q.trace) (Lost L q.trace u) own (h.reads u) e; writes = h.writes; talks = h.talks; ends = h.ends }

  after_write : (A : Allowed) (v : ℕ) (c : Content) (q : Ran Flow) → A (Writing v) → Traced L A q → Traced L A (after_event (Wrote v c) q)
  after_write A v c q own h = record { reads = h.reads; writes = λ u e. by_unit (λ w. A (Writing w)) v u (is_written u q.trace) (Lost L q.trace u) own (h.writes u) e; talks = h.talks; ends = h.ends }

  under_answer : (A : Allowed) (p : Spot) (a : Answer Flow) → AnswerIn (Under L p A) a → AnswerIn A a
  under_answer A p (Gave f) h = ends_under L p A f h
  under_answer A p (Broke b) h = tt

  regroup : {X Y Z : Type 0} → (X ⊎ Y) ⊎ Z → X ⊎ (Y ⊎ Z)
  regroup (inl (inl x)) = inl x
  regroup (inl (inr y)) = inr (inl y)
  regroup (inr z) = inr (inr z)

  after_arrival : (A : Allowed) (p : Spot) (q : Ran Flow) → Traced L (Under L p A) q → Traced L A (after_event (Arrived p) q)
  after_arrival A p q h = record { reads = λ u e. regroup (h.reads u e); writes = λ u e. regroup (h.writes u e); talks = h.talks; ends = under_answer A p q.answer h.ends }

  pub traced : (m : Steps Flow) (A : Allowed) (s : Store) (i : List Content) → Along m L A s i → Traced L A (run m (Whole s) i)
  traced (steps.Done f) A s i h = record { reads = λ u e. cc; writes = λ u e. cc; talks = λ e. cc; ends = h }
  traced (steps.Breaks b) A s i h = record { reads = λ u e. cc; writes = λ u e. cc; talks = λ e. cc; ends = tt }
  traced (steps.Look u k) A s i h = after_read A u (s u) (run (k (s u)) (Whole s) i) h.0 (traced (k (s u)) A s i h.1)
  traced (steps.Set u c t) A s i h = after_write A u c (run t (Whole (put s u c)) i) h.0 (traced t A (put s u c) i h.1)
  traced (steps.Hold u c t) A s i h = traced t A (put s u c) i h
  traced (steps.Forget u t) A s i h = traced t A (put s u (undefined (s u))) i h
  traced (steps.Show xs t) A s i h = let r = traced t A s i h.1 in record { reads = r.reads; writes = r.writes; talks = λ e. h.0; ends = r.ends }
  traced (steps.Take k) A s i h = let r = traced (k (first_of i)) A s (rest_of i) h.1 in record { reads = r.reads; writes = r.writes; talks = λ e. h.0; ends = r.ends }
  traced (steps.Arrive p t) A s i h = after_arrival A p (run t (Whole s) i) (traced t (Under L p A) s i h)

  -- ---- the claim in each execution

  at_end : (A : Allowed) (a : Answer Flow) (s : Store) (i : List Content) (P : Flow → Store → List Content → Type 0) → AnswerIn A a → ((f : Flow) (z : Store) (j : List Content) → EndsIn A f → P f z j) → AtEnd a s i P
  at_end A (Gave f) s i P h more = more f s i h
  at_end A (Broke b) s i P h more = tt

  pub fine_throughout : (C : Occurrence → Type 0) (t : Plan) (A : Allowed) → Fine t L C A → (s : Store) (i : List Content) (onward : Onward) → Throughout C t s i onward
  fine_throughout C (Ends f) A h s i onward = tt
  fine_throughout C (Breaks b) A h s i onward = tt
  fine_throughout C (Look u k) A h s i onward = fine_throughout C (k (s u)) A (h.1 (s u)) s i onward
  fine_throughout C (Set u c t) A h s i onward = fine_throughout C t A h.1 (put s u c) i onward
  fine_throughout C (Hold u c t) A h s i onward = fine_throughout C t A h (put s u c) i onward
  fine_throughout C (Forget u t) A h s i onward = fine_throughout C t A h (put s u (undefined (s u))) i onward
  fine_throughout C (Show xs t) A h s i onward = fine_throughout C t A h.1 s i onward
  fine_throughout C (Take k) A h s i onward = fine_throughout C (k (first_of i)) A (h.1 (first_of i)) s (rest_of i) onward
  fine_throughout C (Within p at t k) A h s i onward =
      let q = run_of t s i in
      let next : Onward = λ f z j. events_from (k f) onward z j in
      let answer = under_answer A p q.answer (traced (steps_of t) (Under L p A) s i (fine_along L C t (Under L p A) h.1 s i)).ends in (
        h.0 s i (events_after q next),
        fine_throughout C t (Under L p A) h.1 s i next,
        at_end A q.answer (store_of q.memory) q.input (λ f z j. Throughout C (k f) z j onward) answer (λ f z j e. fine_throughout C (k f) A (h.2 f e) z j onward),
      )
