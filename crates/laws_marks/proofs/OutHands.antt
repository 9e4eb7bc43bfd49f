-- The rules for plans in a run that no fault ends: what is needed of a stretch later, handed down to its parts.
use Rattle.std.proofs.Common.{◌≡◌, ℕ, List, [], ◌∷◌, ◌++◌, Option, Some, None, Bool, refl, sym, ap, ◌∙◌, subst, append-nil}
use Rattle.f77_ast.specs.Store.{Content, Store, put, undefined}
use Rattle.f77_ast.specs.Faults.{Fault}
use Rattle.f77_ast.specs.Steps.{Spot, Shown, Break, Faulty, Steps, ◌>>=◌}
use Rattle.f77_ast.specs.Steps as steps
use Rattle.f77_ast.specs.Runs.{Event, Arrived, Read, Wrote, Memory, Whole, Answer, Gave, Broke, Ran, run, store_of}
use Rattle.f77_ast.specs.Places.{Places}
use Rattle.f77_ast.specs.Writes.{Locks, written, write}
use Rattle.f77_ast.specs.Plans.{Flow, Normal, Jump, Returned, Stopped, Plan, Ends, Breaks, Look, Set, Within, ◌▹◌, first, steps_of}
use Rattle.f77_ast.specs.Calls.{forget_all}
use Rattle.f77_ast.specs.Executions.{run_of, AtEnd}
use Rattle.f77_ast.specs.Programs.{Conforms}
use Rattle.f77_meaning.specs.Occurrences.{Occurrence, after_answer, events_after, places_in, Throughout}
use Rattle.affine_forms.specs.Claims.{numbers_of}
use Rattle.laws_analyses.proofs.Regions.Rules.{Post, Meets}
use Rattle.laws_analyses.proofs.Regions.Looks.{Looked}
use Rattle.laws_analyses.proofs.Regions.Starts.{forgotten_same}
use Rattle.laws_analyses.proofs.Regions.Storing.{Holding}
use Rattle.laws_marks.specs.OutRests.{onward_by, IsStrict, Follows}
use Rattle.laws_marks.proofs.OutRuns.{on_from, then_run, run_after, plan_after, then_assoc, events_join, onward_join, throughout_then}
use Rattle.laws_marks.proofs.OutStrictParts.{follows_then}
use Rattle.f77_ast.proofs.Shared.{steps_then as plan_then}

-- what is needed of these events later
abbrev pub Need : Type 1
Need = List Event → List Event → Type 0

-- after a STOP, or a break, nothing comes
abbrev pub IsLater : Answer Flow → List Event → Type 0
IsLater (Gave Normal) later = Unit {0}
IsLater (Gave (Jump l)) later = Unit {0}
IsLater (Gave Returned) later = Unit {0}
IsLater (Gave Stopped) later = later ≡ []
IsLater (Broke b) later = later ≡ []

module _ (D : Occurrence → Type 0) (lost : ℕ → Bool) where
  -- in a run that goes on as it may, and that no fault ends, the claim holds of each execution in the plan, where what is needed later is such
  abbrev pub Hands : Plan → Store → Need → Type 0
  Hands t s N = (i : List Content) (k : Flow → Plan) → Follows lost k → Conforms (run_of (t ▹ k) s i).answer → N (run_of t s i).trace (events_after (run_of t s i) (onward_by k)) → Throughout D t s i (onward_by k)

  -- what follows comes later
  later_of : (a : Answer Flow) (m : Memory) (j : List Content) (k : Flow → Plan) → Follows lost k → IsLater a (after_answer a (store_of m) j (onward_by k))
  later_of (Gave Normal) m j k fl = tt
  later_of (Gave (Jump l)) m j k fl = tt
  later_of (Gave Returned) m j k fl = tt
  later_of (Gave Stopped) m j k fl = ap (λ t. (run_of t (store_of m) j).trace) fl.stopped
  later_of (Broke b) m j k fl = refl

  pub hands_ends : (f : Flow) (s : Store) (N : Need) → Hands (Ends f) s N
  hands_ends f s N i k fl cf n = tt

  pub hands_breaks : (b : Break) (s : Store) (N : Need) → Hands (Breaks b) s N
  hands_breaks b s N i k fl cf n = tt

  pub hands_look : (u : ℕ) (c : Content → Plan) (s : Store) (N : Need) → Hands (c (s u)) s (λ es later. N (Read u (s u) ∷ es) later) → Hands (Look u c) s N
  hands_look u c s N h i k fl cf n = h i k fl cf n

  pub hands_set : (u : ℕ) (c : Content) (t : Plan) (s : Store) (N : Need) → Hands t (put s u c) (λ es later. N (Wrote u c ∷ es) later) → Hands (Set u c t) s N
  hands_set u c t s N h i k fl cf n = h i k fl cf n

  pub hands_more : (t : Plan) (s : Store) (N M : Need) → ((es later : List Event) → N es later → M es later) → Hands t s M → Hands t s N
  hands_more t s N M m h i k fl cf n = h i k fl cf (m (run_of t s i).trace (events_after (run_of t s i) (onward_by k)) n)

  -- with what is known of the run
  pub hands_knowing : (t : Plan) (s : Store) (P : Post Flow) (N M : Need) → ((i : List Content) → Meets P (run_of t s i)) → ((a : Answer Flow) (z : Store) (es later : List Event) → P a z es → N es later → M es later) → Hands t s M → Hands t s N
  hands_knowing t s P N M post m h i k fl cf n = (let q = run_of t s i in h i k fl cf (m q.answer (store_of q.memory) q.trace (events_after q (onward_by k)) (post i) n))

  pub hands_then : (t : Plan) (f : Flow → Plan) (s : Store) (P : Post Flow) (N M : Need) → ((g : Flow) → IsStrict lost (f g)) → f Stopped ≡ Ends Stopped → ((i : List Content) → Meets P (run_of t s i)) → Hands t s M → ((es : List Event) → M es []) →
      ((g : Flow) (z : Store) (es : List Event) → P (Gave g) z es → (j : List Content) (later : List Event) → IsLater (run_of (f g) z j).answer later → N (es ++ (run_of (f g) z j).trace) later → M es ((run_of (f g) z j).trace ++ later)) →
      ((g : Flow) (z : Store) (es : List Event) → P (Gave g) z es → Hands (f g) z (λ fs later. N (es ++ fs) later)) →
      Hands (t ▹ f) s N
  hands_then t f s P N M strict stops post h none given next i k fl cf n =
      throughout_then D t f k s i
      (h i (λ g. f g ▹ k) (follows_then lost f k strict stops fl) conforms (from q.answer q.memory q.input q.trace (post i) both))
      (rest q.answer q.memory q.input q.trace (post i) both ended)
    where
      q : Ran Flow
      q = run_of t s i

      both : N (then_run (run_of t s i) (λ g z j. run_of (f g) z j)).trace (events_after (then_run (run_of t s i) (λ g z j. run_of (f g) z j)) (onward_by k))
      both = subst (λ r. N r.trace (events_after r (onward_by k))) (plan_after t f s i) n

      conforms : Conforms (run_of (t ▹ (λ g. f g ▹ k)) s i).answer
      conforms = subst (λ x. Conforms (run_of x s i).answer) (then_assoc t f k) cf

      ended : Conforms (then_run (run_of t s i) (λ g z j. run_of (f g ▹ k) z j)).answer
      ended = subst (λ r. Conforms r.answer) (plan_after t (λ g. f g ▹ k) s i) conforms

      from : (a : Answer Flow) (m : Memory) (j : List Content) (es : List Event) → P a (store_of m) es → N (on_from a m j es (λ g z l. run_of (f g) z l)).trace (events_after (on_from a m j es (λ g z l. run_of (f g) z l)) (onward_by k)) → M es (after_answer a (store_of m) j (onward_by (λ g. f g ▹ k)))
      from (Gave g) m j es p x =
          let r = run_of (f g) (store_of m) j in
          subst (λ fs. M es fs) (events_join (f g) k (store_of m) j) (given g (store_of m) es p j (events_after r (onward_by k)) (later_of r.answer r.memory r.input k fl) x)
      from (Broke b) m j es p x = none es

      rest : (a : Answer Flow) (m : Memory) (j : List Content) (es : List Event) → P a (store_of m) es → N (on_from a m j es (λ g z l. run_of (f g) z l)).trace (events_after (on_from a m j es (λ g z l. run_of (f g) z l)) (onward_by k)) → Conforms (on_from a m j es (λ g z l. run_of (f g ▹ k) z l)).answer → AtEnd a (store_of m) j (λ g z l. Throughout D (f g) z l (onward_by k))
      rest (Gave g) m j es p x c = next g (store_of m) es p j k fl c x
      rest (Broke b) m j es p x c = tt

  -- an execution of a statement
  pub hands_at : (p : Spot) (at : Places) (t : Plan) (s : Store) (N M : Need) → Hands t s N → ((i : List Content) (later : List Event) → N (run_of t s i).trace later → D (record { spot = p; places = places_in p.statement t s i at; start = s; ran = run_of t s i; later = later })) → ((es later : List Event) → M (Arrived p ∷ es) later → N es later) → Hands (Within p at t (λ f. Ends f)) s M
  hands_at p at t s N M h claim fewer i k fl cf n = (claim i (events_after (run_of t s i) (onward_by k)) inside, h i k fl conforms inside, nothing (run_of t s i).answer)
    where
      nothing : (a : Answer Flow) → AtEnd a (store_of (run_of t s i).memory) (run_of t s i).input (λ f z j. Unit {0})
      nothing (Gave f) = tt
      nothing (Broke b) = tt

      conforms : Conforms (run_of (t ▹ k) s i).answer
      conforms = subst (λ x. Conforms (run x (Whole s) i).answer) (sym (plan_then t k)) cf

      within : M (Arrived p ∷ (then_run (run_of t s i) (λ g z j. run_of (Ends g) z j)).trace) (events_after (then_run (run_of t s i) (λ g z j. run_of (Ends g) z j)) (onward_by k))
      within = subst (λ r. M (Arrived p ∷ r.trace) (events_after r (onward_by k))) (run_after (steps_of t) (λ g. steps_of (Ends g)) s i) n

      inside : N (run_of t s i).trace (events_after (run_of t s i) (onward_by k))
      inside = go (run_of t s i).answer (run_of t s i).memory (run_of t s i).input (run_of t s i).trace within
        where
          go : (a : Answer Flow) (m : Memory) (j : List Content) (es : List Event) → M (Arrived p ∷ (on_from a m j es (λ g z l. run_of (Ends g) z l)).trace) (events_after (on_from a m j es (λ g z l. run_of (Ends g) z l)) (onward_by k)) → N es (after_answer a (store_of m) j (onward_by k))
          go (Gave g) m j es x = fewer es (onward_by k g (store_of m) j) (subst (λ fs. M (Arrived p ∷ fs) (onward_by k g (store_of m) j)) (append-nil es) x)
          go (Broke b) m j es x = fewer es [] x

  -- what only looks, and then a plan
  pub hands_first : {A : Type 0} (t : Steps A) (f : A → Plan) (s : Store) (P : Answer A → List Event → Type 0) (N : Need) → Looked t s P → ((a : A) (es : List Event) → P (Gave a) es → Hands (f a) s (λ fs later. N (es ++ fs) later)) → Hands (first t f) s N
  hands_first (steps.Done a) f s P N h next = next a [] h
  hands_first (steps.Breaks b) f s P N h next = hands_breaks b s N
  hands_first (steps.Look u k) f s P N h next = hands_look u (λ c. first (k c) f) s N (hands_first (k (s u)) f s (λ a es. P a (Read u (s u) ∷ es)) (λ es later. N (Read u (s u) ∷ es) later) h (λ a es p. next a (Read u (s u) ∷ es) p))
  hands_first (steps.Set u c t) f s P N h next = absurd h
  hands_first (steps.Hold u c t) f s P N h next = absurd h
  hands_first (steps.Forget u t) f s P N h next = absurd h
  hands_first (steps.Show xs t) f s P N h next = absurd h
  hands_first (steps.Take k) f s P N h next = absurd h
  hands_first (steps.Arrive p t) f s P N h next = absurd h

  -- a write, or a fault
  pub hands_write : (locked : Locks) (u : ℕ) (c : Content) (f : Unit {0} → Plan) (s : Store) (N : Need) → (locked u ≡ None → Hands (f tt) (put s u c) (λ es later. N (Wrote u c ∷ es) later)) → Hands (first (write locked u c) f) s N
  hands_write locked u c f s N h = go (locked u) refl
    where
      go : (o : Option Fault) → locked u ≡ o → Hands (first (written o u c) f) s N
      go None e = hands_set u c (f tt) s N (h e)
      go (Some g) e = hands_breaks (Faulty g) s N

  -- units that become undefined keep their numbers
  pub hands_forget : (us : List ℕ) (t : Plan) (s : Store) (N : Need) → ((z : Store) → numbers_of z ≡ numbers_of s → Hands t z N) → Hands (forget_all us t) s N
  hands_forget [] t s N h = h s refl
  hands_forget (u ∷ us) t s N h = λ i k fl cf n. hands_forget us t (put s u (undefined (s u))) N (λ z e. h z (e ∙ forgotten_same s u)) i k fl cf n

  -- actuals that are put in units of their own, and then a plan
  pub hands_holding : {A : Type 0} (t : Steps A) (f : A → Plan) (s : Store) (Q : Post A) (N : Need) → Holding t s Q → ((a : A) (z : Store) (es : List Event) → Q (Gave a) z es → Hands (f a) z (λ fs later. N (es ++ fs) later)) → Hands (first t f) s N
  hands_holding (steps.Done a) f s Q N h next = next a s [] h
  hands_holding (steps.Breaks b) f s Q N h next = hands_breaks b s N
  hands_holding (steps.Look u k) f s Q N h next =
      hands_look u (λ c. first (k c) f) s N (hands_holding (k (s u)) f s (λ a z es. Q a z (Read u (s u) ∷ es)) (λ es later. N (Read u (s u) ∷ es) later) h (λ a z es p. next a z (Read u (s u) ∷ es) p))
  hands_holding (steps.Set u c t) f s Q N h next = absurd h
  hands_holding (steps.Hold u c t) f s Q N h next = λ i k fl cf n. hands_holding t f (put s u c) Q N h next i k fl cf n
  hands_holding (steps.Forget u t) f s Q N h next = absurd h
  hands_holding (steps.Show xs t) f s Q N h next = absurd h
  hands_holding (steps.Take k) f s Q N h next = absurd h
  hands_holding (steps.Arrive p t) f s Q N h next = absurd h

  -- an execution, and then a plan
  pub hands_within : (p : Spot) (at : Places) (t : Plan) (f : Flow → Plan) (s : Store) (P : Post Flow) (N M : Need) → ((g : Flow) → IsStrict lost (f g)) → f Stopped ≡ Ends Stopped → ((i : List Content) → Meets P (run_of t s i)) → Hands t s M → ((es : List Event) → M es []) →
      ((i : List Content) (later : List Event) → M (run_of t s i).trace later → D (record { spot = p; places = places_in p.statement t s i at; start = s; ran = run_of t s i; later = later })) →
      ((g : Flow) (z : Store) (es : List Event) → P (Gave g) z es → (j : List Content) (k : Flow → Plan) → Follows lost k → Conforms (run_of (f g ▹ k) z j).answer → N (Arrived p ∷ (es ++ (run_of (f g) z j).trace)) (events_after (run_of (f g) z j) (onward_by k)) → M es (run_of (f g ▹ k) z j).trace) →
      ((g : Flow) (z : Store) (es : List Event) → P (Gave g) z es → Hands (f g) z (λ fs later. N (Arrived p ∷ (es ++ fs)) later)) →
      Hands (Within p at t f) s N
  hands_within p at t f s P N M strict stops post h none claim given next i k fl cf n =
      let e = onward_join f k in (
        subst (λ o. D (record { spot = p; places = places_in p.statement t s i at; start = s; ran = run_of t s i; later = events_after (run_of t s i) o })) (sym e) (claim i (events_after (run_of t s i) (onward_by (λ g. f g ▹ k))) inside),
        subst (λ o. Throughout D t s i o) (sym e) (h i (λ g. f g ▹ k) (follows_then lost f k strict stops fl) conforms inside),
        rest q.answer q.memory q.input q.trace (post i) both ended,
      )
    where
      q : Ran Flow
      q = run_of t s i

      conforms : Conforms (run_of (t ▹ (λ g. f g ▹ k)) s i).answer
      conforms = subst (λ x. Conforms (run x (Whole s) i).answer) (sym (plan_then t (λ g. f g ▹ k))) cf

      ended : Conforms (then_run (run_of t s i) (λ g z j. run_of (f g ▹ k) z j)).answer
      ended = subst (λ r. Conforms r.answer) (run_after (steps_of t) (λ g. steps_of (f g ▹ k)) s i) cf

      both : N (Arrived p ∷ (then_run (run_of t s i) (λ g z j. run_of (f g) z j)).trace) (events_after (then_run (run_of t s i) (λ g z j. run_of (f g) z j)) (onward_by k))
      both = subst (λ r. N (Arrived p ∷ r.trace) (events_after r (onward_by k))) (run_after (steps_of t) (λ g. steps_of (f g)) s i) n

      from : (a : Answer Flow) (m : Memory) (j : List Content) (es : List Event) → P a (store_of m) es → N (Arrived p ∷ (on_from a m j es (λ g z l. run_of (f g) z l)).trace) (events_after (on_from a m j es (λ g z l. run_of (f g) z l)) (onward_by k)) → Conforms (on_from a m j es (λ g z l. run_of (f g ▹ k) z l)).answer → M es (after_answer a (store_of m) j (onward_by (λ g. f g ▹ k)))
      from (Gave g) m j es r x c = given g (store_of m) es r j k fl c x
      from (Broke b) m j es r x c = none es

      inside : M (run_of t s i).trace (events_after (run_of t s i) (onward_by (λ g. f g ▹ k)))
      inside = from q.answer q.memory q.input q.trace (post i) both ended

      rest : (a : Answer Flow) (m : Memory) (j : List Content) (es : List Event) → P a (store_of m) es → N (Arrived p ∷ (on_from a m j es (λ g z l. run_of (f g) z l)).trace) (events_after (on_from a m j es (λ g z l. run_of (f g) z l)) (onward_by k)) → Conforms (on_from a m j es (λ g z l. run_of (f g ▹ k) z l)).answer → AtEnd a (store_of m) j (λ g z l. Throughout D (f g) z l (onward_by k))
      rest (Gave g) m j es r x c = next g (store_of m) es r j k fl c x
      rest (Broke b) m j es r x c = tt
