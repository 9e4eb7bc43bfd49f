-- Where each marked loop stands in an execution of its own, claims on executions give claims on marked loops.
use Rattle.std.proofs.Common.{◌≡◌, ◌⊎◌, inl, ⊎_elim, ℕ, zero, suc, List, [], ◌∷◌, Option, Some, None, Bool, true, false, refl, sym, ◌∙◌, subst, ℤ, ◌+ℤ◌}
use Rattle.std.specs.Prelude.{if◌then◌else◌}
use Rattle.f77_ast.specs.Store.{Int, Content, Store, put, undefined}
use Rattle.f77_ast.specs.Faults.{Fault}
use Rattle.f77_ast.specs.Numbers.{kept}
use Rattle.f77_ast.specs.Steps.{Spot, Break, Steps, OutOfTurns, ◌>>=◌}
use Rattle.f77_ast.specs.Steps as steps
use Rattle.f77_ast.specs.Places.{Places}
use Rattle.f77_ast.specs.Values.{given}
use Rattle.f77_ast.specs.Runs.{Event, Answer, Gave, Broke, Ran, Whole, run, first_of, rest_of, store_of}
use Rattle.f77_ast.specs.Plans.{Flow, Normal, Jump, Returned, Stopped, Plan, steps_of}
use Rattle.f77_ast.specs.Plans as plan
use Rattle.f77_ast.specs.Executions.{AtEnd}
use Rattle.f77_ast.specs.Lists.{is_label}
use Rattle.f77_meaning.specs.Occurrences.{Onward, after_answer, events_after, events_from}
use Rattle.laws_interleavings.specs.Marks.{MarkedPlan, Ends, Breaks, Look, Set, Hold, Forget, Show, Take, Within, Loop, Reduce, plain, plain_run}
use Rattle.laws_interleavings.specs.MarkedStatements.{unmarked, ◌▹▹◌, steps_first, when_normal, MarkedPart, stands, parts_from, go_on, one_by_one, with_jumps, marked_list, marked_iterations, written_first}
use Rattle.laws_interleavings.specs.Sound.{OnGave}
use Rattle.laws_interleavings.specs.Holds.{later_events, MarksHold}
use Rattle.laws_interleavings.proofs.Runs.{run_bind, on_from, stays_whole}
use Rattle.laws_marks.specs.ConflictExecutions.{Execution}
use Rattle.laws_interleavings.proofs.Plans.Fine.{Yields, yields_any}
use Rattle.laws_marks.specs.Rests.{EachWithRest}
use Rattle.fx_lists.proofs.Every.{Anything}

module _ (C : Execution → List Event → Type 0) where
  -- its marked loops hold where the claim holds of it
  abbrev pub Direct : Spot → Places → MarkedPlan → Type 0
  Direct p at t = (s : Store) (i : List Content) (later : List Event) → C (record { spot = p; places = at; does = plain t; start = s; input = i }) later → MarksHold t s i later

  -- each marked loop stands in an execution of which this is known
  abbrev pub Fit : MarkedPlan → Type 0
  Fit (Ends f) = Unit {0}
  Fit (Breaks b) = Unit {0}
  Fit (Look u k) = (c : Content) → Fit (k c)
  Fit (Set u c t) = Fit t
  Fit (Hold u c t) = Fit t
  Fit (Forget u t) = Fit t
  Fit (Show xs t) = Fit t
  Fit (Take k) = (o : Option Content) → Fit (k o)
  Fit (Within p at t k) = (Fit t ⊎ Direct p at t) × ((f : Flow) → Fit (k f))
  Fit (Loop m k) = ⊥
  Fit (Reduce d k) = ⊥

  -- ---- along a run

  abbrev next : (Flow → MarkedPlan) → Flow → Steps Flow
  next k f = steps_of (plain (k f))

  -- what comes after a part
  rest_same : (k : Flow → MarkedPlan) (onward : Onward) (a : Answer Flow) (y : Store) (j : List Content) (es : List Event) →
      later_events a y j k (events_after (on_from a (Whole y) j es (next k)) onward) ≡ after_answer a y j (λ f z l. events_from (plain (k f)) onward z l)
  rest_same k onward (Gave f) y j es = refl
  rest_same k onward (Broke b) y j es = refl

  after_held : (k : Flow → MarkedPlan) (onward : Onward) → ((f : Flow) (y : Store) (j : List Content) → EachWithRest C (plain (k f)) y j onward → MarksHold (k f) y j (events_after (plain_run (k f) y j) onward)) →
      (a : Answer Flow) (y : Store) (j : List Content) (es : List Event) → AtEnd a y j (λ f z l. EachWithRest C (plain (k f)) z l onward) →
      OnGave a y (λ f z. MarksHold (k f) z j (events_after (on_from a (Whole y) j es (next k)) onward))
  after_held k onward ih (Gave f) y j es h = ih f y j h
  after_held k onward ih (Broke b) y j es h = tt

  pub held : (t : MarkedPlan) → Fit t → (s : Store) (i : List Content) (onward : Onward) → EachWithRest C (plain t) s i onward → MarksHold t s i (events_after (plain_run t s i) onward)
  held (Ends f) h s i onward e = tt
  held (Breaks b) h s i onward e = tt
  held (Look u k) h s i onward e = held (k (s u)) (h (s u)) s i onward e
  held (Set u c t) h s i onward e = held t h (put s u c) i onward e
  held (Hold u c t) h s i onward e = held t h (put s u c) i onward e
  held (Forget u t) h s i onward e = held t h (put s u (undefined (s u))) i onward e
  held (Show xs t) h s i onward e = held t h s i onward e
  held (Take k) h s i onward e = held (k (first_of i)) (h (first_of i)) s (rest_of i) onward e
  held (Within p at t k) h s i onward e =
      let q = plain_run t s i in
      let y = store_of q.memory in
      let path : run (steps_of (plain t) >>= next k) (Whole s) i ≡ on_from q.answer (Whole y) q.input q.trace (next k) =
      run_bind (steps_of (plain t)) (next k) (Whole s) i ∙ (λ j. on_from q.answer (stays_whole (steps_of (plain t)) s i j) q.input q.trace (next k)) in
      let on : Onward = λ f z j. events_from (plain (k f)) onward z j in
      let rest = events_after (on_from q.answer (Whole y) q.input q.trace (next k)) onward in
      let same : events_after q on ≡ later_events q.answer y q.input k rest = sym (rest_same k onward q.answer y q.input q.trace) in
      let inner : MarksHold t s i (events_after q on) = ⊎_elim (λ (f : Fit t). held t f s i on e.1) (λ (d : Direct p at t). d s i (events_after q on) e.0) h.0 in
      let both : MarksHold (Within p at t k) s i rest =
      (subst (λ (l : List Event). MarksHold t s i l) same inner, after_held k onward (λ f z j g. held (k f) (h.1 f) z j onward g) q.answer y q.input q.trace e.2) in
      subst (λ (r : Ran Flow). MarksHold (Within p at t k) s i (events_after r onward)) (sym path) both
  held (Loop m k) h s i onward e = absurd h
  held (Reduce d k) h s i onward e = absurd h

  -- ---- plans

  pub fit_unmarked : (t : Plan) → Fit (unmarked t)
  fit_unmarked (plan.Ends f) = tt
  fit_unmarked (plan.Breaks b) = tt
  fit_unmarked (plan.Look u k) = λ c. fit_unmarked (k c)
  fit_unmarked (plan.Set u c t) = fit_unmarked t
  fit_unmarked (plan.Hold u c t) = fit_unmarked t
  fit_unmarked (plan.Forget u t) = fit_unmarked t
  fit_unmarked (plan.Show xs t) = fit_unmarked t
  fit_unmarked (plan.Take k) = λ o. fit_unmarked (k o)
  fit_unmarked (plan.Within p at t k) = (inl (fit_unmarked t), λ f. fit_unmarked (k f))

  pub fit_then : (t : MarkedPlan) (f : Flow → MarkedPlan) → Fit t → ((g : Flow) → Fit (f g)) → Fit (t ▹▹ f)
  fit_then (Ends g) f h n = n g
  fit_then (Breaks b) f h n = tt
  fit_then (Look u k) f h n = λ c. fit_then (k c) f (h c) n
  fit_then (Set u c t) f h n = fit_then t f h n
  fit_then (Hold u c t) f h n = fit_then t f h n
  fit_then (Forget u t) f h n = fit_then t f h n
  fit_then (Show xs t) f h n = fit_then t f h n
  fit_then (Take k) f h n = λ o. fit_then (k o) f (h o) n
  fit_then (Within p at t k) f h n = (h.0, λ g. fit_then (k g) f (h.1 g) n)
  fit_then (Loop m k) f h n = absurd h
  fit_then (Reduce d k) f h n = absurd h

  pub fit_first : {A : Type 0} (P : A → Type 0) (t : Steps A) (f : A → MarkedPlan) → Yields P t → ((a : A) → P a → Fit (f a)) → Fit (steps_first t f)
  fit_first P (steps.Done a) f y n = n a y
  fit_first P (steps.Breaks b) f y n = tt
  fit_first P (steps.Look u k) f y n = λ c. fit_first P (k c) f (y c) n
  fit_first P (steps.Set u c t) f y n = fit_first P t f y n
  fit_first P (steps.Hold u c t) f y n = fit_first P t f y n
  fit_first P (steps.Forget u t) f y n = fit_first P t f y n
  fit_first P (steps.Show xs t) f y n = fit_first P t f y n
  fit_first P (steps.Take k) f y n = λ o. fit_first P (k o) f (y o) n
  fit_first P (steps.Arrive p t) f y n = fit_first P t f y n

  pub fit_after : {A : Type 0} (t : Steps A) (f : A → MarkedPlan) → ((a : A) → Fit (f a)) → Fit (steps_first t f)
  fit_after t f n = fit_first Anything t f (yields_any t) (λ a q. n a)

  fit_normal : (f : Flow) (t : MarkedPlan) → Fit t → Fit (when_normal f t)
  fit_normal Normal t h = h
  fit_normal (Jump l) t h = tt
  fit_normal Returned t h = tt
  fit_normal Stopped t h = tt

  pub fit_if : (b : Bool) (t z : MarkedPlan) → Fit t → Fit z → Fit (if b then t else z)
  fit_if true t z h g = h
  fit_if false t z h g = g

  -- ---- lists

  abbrev pub PartsFit : List MarkedPart → Type 0
  PartsFit [] = Unit {0}
  PartsFit (q ∷ qs) = Fit q.does × PartsFit qs

  fit_from : (l : ℕ) (qs : List MarkedPart) → PartsFit qs → PartsFit (parts_from l qs)
  fit_from l [] h = tt
  fit_from l (q ∷ qs) h = go (is_label l q.label) (fit_from l qs h.1)
    where
      go : (b : Bool) → PartsFit (parts_from l qs) → PartsFit (if b then q ∷ qs else parts_from l qs)
      go true ih = h
      go false ih = ih

  fit_go_on : (jump : ℕ → MarkedPlan) (all : List MarkedPart) (rest : MarkedPlan) → ((l : ℕ) → Fit (jump l)) → Fit rest → (g : Flow) → Fit (go_on jump all rest g)
  fit_go_on jump all rest j h Normal = h
  fit_go_on jump all rest j h (Jump l) = fit_if (stands l all) (jump l) (Ends (Jump l)) (j l) tt
  fit_go_on jump all rest j h Returned = tt
  fit_go_on jump all rest j h Stopped = tt

  fit_one : (jump : ℕ → MarkedPlan) (all qs : List MarkedPart) → ((l : ℕ) → Fit (jump l)) → PartsFit qs → Fit (one_by_one jump all qs)
  fit_one jump all [] j h = tt
  fit_one jump all (q ∷ qs) j h = fit_then q.does (go_on jump all (one_by_one jump all qs)) h.0 (fit_go_on jump all (one_by_one jump all qs) j (fit_one jump all qs j h.1))

  fit_jumps : (n : ℕ) (all qs : List MarkedPart) → PartsFit all → PartsFit qs → Fit (with_jumps n all qs)
  fit_jumps zero all qs a h = fit_one (λ l. Breaks OutOfTurns) all qs (λ l. tt) h
  fit_jumps (suc n) all qs a h = fit_one (λ l. with_jumps n all (parts_from l all)) all qs (λ l. fit_jumps n all (parts_from l all) a (fit_from l all a)) h

  pub fit_list : (turns : ℕ) (qs : List MarkedPart) → PartsFit qs → Fit (marked_list turns qs)
  fit_list turns qs h = fit_jumps turns qs qs h h

  pub fit_iterations : (k : ℕ) (n step : ℤ) (u : ℕ) (body : MarkedPlan) → Fit body → Fit (marked_iterations k n step u body)
  fit_iterations zero n step u body h = tt
  fit_iterations (suc k) n step u body h =
      fit_then body (λ f. when_normal f (steps_first (given Int (kept (n +ℤ step))) (λ c. Set u c (marked_iterations k c.number step u body)))) h
      (λ f. fit_normal f (steps_first (given Int (kept (n +ℤ step))) (λ c. Set u c (marked_iterations k c.number step u body)))
      (fit_after (given Int (kept (n +ℤ step))) (λ c. Set u c (marked_iterations k c.number step u body)) (λ c. fit_iterations k c.number step u body h)))

  pub fit_begins : (o : Option Fault) (u : ℕ) (c : Content) (t : MarkedPlan) → Fit t → Fit (written_first o u c t)
  fit_begins None u c t h = h
  fit_begins (Some f) u c t h = tt

  -- ---- a marked loop behind steps

  pub first_marks : {A : Type 0} (t : Steps A) (f : A → MarkedPlan) (s : Store) (i : List Content) (later : List Event) → AtEnd (run t (Whole s) i).answer (store_of (run t (Whole s) i).memory) (run t (Whole s) i).input (λ a z j. MarksHold (f a) z j later) →
      MarksHold (steps_first t f) s i later
  first_marks (steps.Done a) f s i later h = h
  first_marks (steps.Breaks b) f s i later h = tt
  first_marks (steps.Look u k) f s i later h = first_marks (k (s u)) f s i later h
  first_marks (steps.Set u c t) f s i later h = first_marks t f (put s u c) i later h
  first_marks (steps.Hold u c t) f s i later h = first_marks t f (put s u c) i later h
  first_marks (steps.Forget u t) f s i later h = first_marks t f (put s u (undefined (s u))) i later h
  first_marks (steps.Show xs t) f s i later h = first_marks t f s i later h
  first_marks (steps.Take k) f s i later h = first_marks (k (first_of i)) f s (rest_of i) later h
  first_marks (steps.Arrive p t) f s i later h = first_marks t f s i later h
