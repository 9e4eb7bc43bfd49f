-- Plans of which the second rides on the first.
use Rattle.std.proofs.Common.{◌≡◌, ℤ, List, false, Option, None, Some, subst}
use Rattle.std.specs.Prelude.{MatchOption}
use Rattle.f77_ast.specs.Store.{Content, content, same_tag}
use Rattle.f77_ast.specs.Steps.{OutOfTurns}
use Rattle.f77_ast.specs.Steps as steps
use Rattle.f77_ast.specs.Plans.{Flow, Plan, Ends, Breaks, Look, Set, Hold, Forget, Show, Take, Within, steps_of}
use Rattle.laws_interleavings.specs.Faults.{StepsFault, IsFault}
use Rattle.laws_interleavings.specs.Reductions.{ReduceOp, tag_of, Accumulator, operator_at}
use Rattle.laws_interleavings.specs.Rides.{Phase, Outside, Inside, Accumulates}
use Rattle.laws_interleavings.proofs.Accumulating.To.{RidesTo, rides_then, Same}

module _ (as' : List Accumulator) where
  -- as of steps; executions begin and end outside accumulations
  abbrev pub PlanRides : Phase → Plan → Plan → Type 0
  PlanRides Outside (Ends f) (Ends g) = f ≡ g
  PlanRides Outside (Breaks b) t = Unit {0}
  PlanRides Outside (Look u k) (Look x h) =
      (u ≡ x)
      × MatchOption (operator_at as' u) ((c : Content) → PlanRides Outside (k c) (h c))
      (λ o. ((c : Content) → same_tag (tag_of o) c.tag ≡ false → IsFault (k c)) × ((m n : ℤ) → PlanRides (Inside u o m n) (k (content (tag_of o) m)) (h (content (tag_of o) n))))
  PlanRides Outside (Set u c t) (Set x e h) = (u ≡ x) × (c ≡ e) × (operator_at as' u ≡ None) × PlanRides Outside t h
  PlanRides Outside (Hold u c t) (Hold x e h) = (u ≡ x) × (c ≡ e) × (operator_at as' u ≡ None) × PlanRides Outside t h
  PlanRides Outside (Forget u t) (Forget x h) = (u ≡ x) × (operator_at as' u ≡ None) × PlanRides Outside t h
  PlanRides Outside (Show xs t) (Show ys h) = (xs ≡ ys) × PlanRides Outside t h
  PlanRides Outside (Take k) (Take h) = (o : Option Content) → PlanRides Outside (k o) (h o)
  PlanRides Outside (Within p at t k) (Within q bt h l) = (p ≡ q) × PlanRides Outside t h × ((f : Flow) → PlanRides Outside (k f) (l f))
  PlanRides (Inside v o m n) (Breaks b) t = Unit {0}
  PlanRides (Inside v o m n) (Look u k) (Look x h) = (u ≡ x) × (operator_at as' u ≡ None) × ((c : Content) → PlanRides (Inside v o m n) (k c) (h c))
  PlanRides (Inside v o m n) (Set u c t) (Set x e h) = (u ≡ v) × (x ≡ v) × Accumulates o m n c e × PlanRides Outside t h
  PlanRides phase t h = ⊥

  pub match_more : (op : Option ReduceOp) (A A' : Type 0) (B B' : ReduceOp → Type 0) → MatchOption op A B → (A → A') → ((o : ReduceOp) → B o → B' o) → MatchOption op A' B'
  match_more None A A' B B' h f g = f h
  match_more (Some o) A A' B B' h f g = g o h

  fault_steps : (t : Plan) → IsFault t → StepsFault (steps_of t)
  fault_steps (Breaks b) h = go b h
    where
      go : (b : _) → IsFault (Breaks b) → StepsFault {A = Flow} (steps.Breaks b)
      go (steps.Faulty f) h = tt
      go (steps.Wants u) h = h
      go steps.OutOfTurns h = h
  fault_steps (Ends f) h = absurd h
  fault_steps (Look u k) h = absurd h
  fault_steps (Set u c t) h = absurd h
  fault_steps (Hold u c t) h = absurd h
  fault_steps (Forget u t) h = absurd h
  fault_steps (Show xs t) h = absurd h
  fault_steps (Take k) h = absurd h
  fault_steps (Within p at t k) h = absurd h

  -- the steps ride
  pub plan_steps : (phase : Phase) (t h : Plan) → PlanRides phase t h → RidesTo as' Same phase (steps_of t) (steps_of h)
  plan_steps Outside (Breaks b) h r = tt
  plan_steps (Inside v o i j) (Breaks b) h r = tt
  plan_steps Outside (Ends f) (Ends g) r = r
  plan_steps Outside (Look u k) (Look x h) r = (
    r.0,
    match_more (operator_at as' u) ((c : Content) → PlanRides Outside (k c) (h c)) ((c : Content) → RidesTo as' Same Outside (steps_of (k c)) (steps_of (h c)))
        (λ o. ((c : Content) → same_tag (tag_of o) c.tag ≡ false → IsFault (k c)) × ((i j : ℤ) → PlanRides (Inside u o i j) (k (content (tag_of o) i)) (h (content (tag_of o) j))))
        (λ o. ((c : Content) → same_tag (tag_of o) c.tag ≡ false → StepsFault (steps_of (k c))) × ((i j : ℤ) → RidesTo as' Same (Inside u o i j) (steps_of (k (content (tag_of o) i))) (steps_of (h (content (tag_of o) j)))))
        r.1 (λ q c. plan_steps Outside (k c) (h c) (q c)) (λ o q. ((λ c e. fault_steps (k c) (q.0 c e)), λ i j. plan_steps (Inside u o i j) (k (content (tag_of o) i)) (h (content (tag_of o) j)) (q.1 i j))),
  )
  plan_steps Outside (Set u c t) (Set x e h) r = (r.0, r.1, r.2, plan_steps Outside t h r.3)
  plan_steps Outside (Hold u c t) (Hold x e h) r = (r.0, r.1, r.2, plan_steps Outside t h r.3)
  plan_steps Outside (Forget u t) (Forget x h) r = (r.0, r.1, plan_steps Outside t h r.2)
  plan_steps Outside (Show xs t) (Show ys h) r = (r.0, plan_steps Outside t h r.1)
  plan_steps Outside (Take k) (Take h) r = λ o. plan_steps Outside (k o) (h o) (r o)
  plan_steps Outside (Within p at t k) (Within q bt h l) r = (
    r.0,
    rides_then as' Same Same Outside (steps_of t) (steps_of h) (λ f. steps_of (k f)) (λ f. steps_of (l f)) (plan_steps Outside t h r.1)
        (λ ph f g s. after ph f g s (λ f. plan_steps Outside (k f) (l f) (r.2 f))),
  )
    where
      after : (ph : Phase) (f g : Flow) → Same ph f g → ((f : Flow) → RidesTo as' Same Outside (steps_of (k f)) (steps_of (l f))) → RidesTo as' Same ph (steps_of (k f)) (steps_of (l g))
      after Outside f g e n = subst (λ g. RidesTo as' Same Outside (steps_of (k f)) (steps_of (l g))) e (n f)
      after (Inside v o i j) f g e n = absurd e
  plan_steps (Inside v o i j) (Look u k) (Look x h) r = (r.0, r.1, λ c. plan_steps (Inside v o i j) (k c) (h c) (r.2 c))
  plan_steps (Inside v o i j) (Set u c t) (Set x e h) r = (r.0, r.1, r.2, plan_steps Outside t h r.3)
  plan_steps phase t h r = absurd r
