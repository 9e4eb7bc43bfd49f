-- Lists and loops of plans of which the second rides on the first.
use Rattle.std.proofs.Common.{◌≡◌, ℕ, zero, suc, ℤ, ◌+ℤ◌, List, [], ◌∷◌, Bool, true, false, ◌||◌, Option, None, Some, refl, ap, subst, ◌∙◌}
use Rattle.std.specs.Prelude.{MatchOption, if◌then◌else◌}
use Rattle.f77_ast.specs.Store.{Int, Content, content, same_tag}
use Rattle.f77_ast.specs.Steps.{OutOfTurns, Steps}
use Rattle.f77_ast.specs.Steps as steps
use Rattle.f77_ast.specs.Numbers.{kept}
use Rattle.f77_ast.specs.Values.{given}
use Rattle.f77_ast.specs.Plans.{Flow, Normal, Jump, Returned, Stopped, Plan, Ends, Breaks, Look, Set, Hold, Forget, Show, Take, Within, ◌▹◌, first, on_normal}
use Rattle.f77_ast.specs.Lists.{Part, is_label, has_label, from_label, go_on, in_order, with_jumps, list_plan}
use Rattle.f77_ast.specs.Loops.{iterations_from}
use Rattle.laws_interleavings.specs.Faults.{StepsFault, IsFault}
use Rattle.laws_interleavings.specs.Reductions.{ReduceOp, tag_of, Accumulator, operator_at}
use Rattle.laws_interleavings.specs.Rides.{Phase, Outside, Inside}
use Rattle.laws_interleavings.specs.Plans.Touched.{EachStep, AnyNumber}
use Rattle.laws_interleavings.specs.Accumulated.{IsFree}
use Rattle.laws_interleavings.proofs.Accumulating.To.{RidesTo}
use Rattle.laws_interleavings.proofs.Accumulating.Plans.{PlanRides, match_more}

fault_then : (t : Plan) (f : Flow → Plan) → IsFault t → IsFault (t ▹ f)
fault_then (Breaks b) f h = h
fault_then (Ends g) f h = absurd h
fault_then (Look u k) f h = absurd h
fault_then (Set u c t) f h = absurd h
fault_then (Hold u c t) f h = absurd h
fault_then (Forget u t) f h = absurd h
fault_then (Show xs t) f h = absurd h
fault_then (Take k) f h = absurd h
fault_then (Within p at t k) f h = absurd h

fault_first : {A : Type 0} (t : Steps A) (f : A → Plan) → StepsFault t → IsFault (first t f)
fault_first (steps.Breaks b) f h = go b h
  where
    go : (b : _) → StepsFault {A = Flow} (steps.Breaks b) → IsFault (Breaks b)
    go (steps.Faulty g) h = tt
    go (steps.Wants u) h = h
    go steps.OutOfTurns h = h
fault_first (steps.Done a) f h = absurd h
fault_first (steps.Look u k) f h = absurd h
fault_first (steps.Set u c t) f h = absurd h
fault_first (steps.Hold u c t) f h = absurd h
fault_first (steps.Forget u t) f h = absurd h
fault_first (steps.Show xs t) f h = absurd h
fault_first (steps.Take k) f h = absurd h
fault_first (steps.Arrive p t) f h = absurd h

module _ (as' : List Accumulator) where
  -- one plan after the other
  pub plans_then : (phase : Phase) (t h : Plan) (f g : Flow → Plan) → PlanRides as' phase t h → ((x : Flow) → PlanRides as' Outside (f x) (g x)) → PlanRides as' phase (t ▹ f) (h ▹ g)
  plans_then Outside (Breaks b) h f g r n = tt
  plans_then (Inside v o i j) (Breaks b) h f g r n = tt
  plans_then Outside (Ends x) (Ends y) f g r n = subst (λ y. PlanRides as' Outside (f x) (g y)) r (n x)
  plans_then Outside (Look u k) (Look x h) f g r n = (
    r.0,
    match_more as' (operator_at as' u) ((c : Content) → PlanRides as' Outside (k c) (h c)) ((c : Content) → PlanRides as' Outside (k c ▹ f) (h c ▹ g))
        (λ o. ((c : Content) → same_tag (tag_of o) c.tag ≡ false → IsFault (k c)) × ((i j : ℤ) → PlanRides as' (Inside u o i j) (k (content (tag_of o) i)) (h (content (tag_of o) j))))
        (λ o. ((c : Content) → same_tag (tag_of o) c.tag ≡ false → IsFault (k c ▹ f)) × ((i j : ℤ) → PlanRides as' (Inside u o i j) (k (content (tag_of o) i) ▹ f) (h (content (tag_of o) j) ▹ g)))
        r.1 (λ q c. plans_then Outside (k c) (h c) f g (q c) n) (λ o q. ((λ c e. fault_then (k c) f (q.0 c e)), λ i j. plans_then (Inside u o i j) (k (content (tag_of o) i)) (h (content (tag_of o) j)) f g (q.1 i j) n)),
  )
  plans_then Outside (Set u c t) (Set x e h) f g r n = (r.0, r.1, r.2, plans_then Outside t h f g r.3 n)
  plans_then Outside (Hold u c t) (Hold x e h) f g r n = (r.0, r.1, r.2, plans_then Outside t h f g r.3 n)
  plans_then Outside (Forget u t) (Forget x h) f g r n = (r.0, r.1, plans_then Outside t h f g r.2 n)
  plans_then Outside (Show xs t) (Show ys h) f g r n = (r.0, plans_then Outside t h f g r.1 n)
  plans_then Outside (Take k) (Take h) f g r n = λ o. plans_then Outside (k o) (h o) f g (r o) n
  plans_then Outside (Within p at t k) (Within q bt h l) f g r n = (r.0, r.1, λ x. plans_then Outside (k x) (l x) f g (r.2 x) n)
  plans_then (Inside v o i j) (Look u k) (Look x h) f g r n = (r.0, r.1, λ c. plans_then (Inside v o i j) (k c) (h c) f g (r.2 c) n)
  plans_then (Inside v o i j) (Set u c t) (Set x e h) f g r n = (r.0, r.1, r.2, plans_then Outside t h f g r.3 n)
  plans_then phase t h f g r n = absurd r

  -- steps, and then plans
  pub plans_first : {A B : Type 0} (Q : Phase → A → B → Type 0) (phase : Phase) (t : Steps A) (h : Steps B) (f : A → Plan) (g : B → Plan) → RidesTo as' Q phase t h →
      ((p : Phase) (a : A) (b : B) → Q p a b → PlanRides as' p (f a) (g b)) → PlanRides as' phase (first t f) (first h g)
  plans_first Q Outside (steps.Done a) (steps.Done b) f g r n = n Outside a b r
  plans_first Q (Inside v o i j) (steps.Done a) (steps.Done b) f g r n = n (Inside v o i j) a b r
  plans_first Q Outside (steps.Breaks b) h f g r n = tt
  plans_first Q (Inside v o i j) (steps.Breaks b) h f g r n = tt
  plans_first Q Outside (steps.Look u k) (steps.Look x h) f g r n = (
    r.0,
    match_more as' (operator_at as' u) ((c : Content) → RidesTo as' Q Outside (k c) (h c)) ((c : Content) → PlanRides as' Outside (first (k c) f) (first (h c) g))
        (λ o. ((c : Content) → same_tag (tag_of o) c.tag ≡ false → StepsFault (k c)) × ((i j : ℤ) → RidesTo as' Q (Inside u o i j) (k (content (tag_of o) i)) (h (content (tag_of o) j))))
        (λ o. ((c : Content) → same_tag (tag_of o) c.tag ≡ false → IsFault (first (k c) f)) × ((i j : ℤ) → PlanRides as' (Inside u o i j) (first (k (content (tag_of o) i)) f) (first (h (content (tag_of o) j)) g)))
        r.1 (λ q c. plans_first Q Outside (k c) (h c) f g (q c) n) (λ o q. ((λ c e. fault_first (k c) f (q.0 c e)), λ i j. plans_first Q (Inside u o i j) (k (content (tag_of o) i)) (h (content (tag_of o) j)) f g (q.1 i j) n)),
  )
  plans_first Q Outside (steps.Set u c t) (steps.Set x e h) f g r n = (r.0, r.1, r.2, plans_first Q Outside t h f g r.3 n)
  plans_first Q Outside (steps.Hold u c t) (steps.Hold x e h) f g r n = (r.0, r.1, r.2, plans_first Q Outside t h f g r.3 n)
  plans_first Q Outside (steps.Forget u t) (steps.Forget x h) f g r n = (r.0, r.1, plans_first Q Outside t h f g r.2 n)
  plans_first Q Outside (steps.Show xs t) (steps.Show ys h) f g r n = (r.0, plans_first Q Outside t h f g r.1 n)
  plans_first Q Outside (steps.Take k) (steps.Take h) f g r n = λ o. plans_first Q Outside (k o) (h o) f g (r o) n
  plans_first Q Outside (steps.Arrive p t) (steps.Arrive q h) f g r n = plans_first Q Outside t h f g r.1 n
  plans_first Q (Inside v o i j) (steps.Look u k) (steps.Look x h) f g r n = (r.0, r.1, λ c. plans_first Q (Inside v o i j) (k c) (h c) f g (r.2 c) n)
  plans_first Q (Inside v o i j) (steps.Set u c t) (steps.Set x e h) f g r n = (r.0, r.1, r.2, plans_first Q Outside t h f g r.3 n)
  plans_first Q phase t h f g r n = absurd r

  match_none : (op : Option ReduceOp) (A : Type 0) (B : ReduceOp → Type 0) → op ≡ None → A → MatchOption op A B
  match_none None A B e h = h
  match_none (Some o) A B e h = cc

  -- a plan that touches no reduction variable rides on itself
  pub plan_alone : (t : Plan) → EachStep (IsFree as') AnyNumber t → PlanRides as' Outside t t
  plan_alone (Ends f) h = refl
  plan_alone (Breaks b) h = tt
  plan_alone (Look u k) h = (refl, match_none (operator_at as' u) _ _ h.0 (λ c. plan_alone (k c) (h.1 c tt)))
  plan_alone (Set u c t) h = (refl, refl, h.0, plan_alone t h.2)
  plan_alone (Hold u c t) h = (refl, refl, h.0, plan_alone t h.2)
  plan_alone (Forget u t) h = (refl, h.0, plan_alone t h.1)
  plan_alone (Show xs t) h = (refl, plan_alone t h)
  plan_alone (Take k) h = λ o. plan_alone (k o) (h o)
  plan_alone (Within p at t k) h = (refl, plan_alone t h.0, λ f. plan_alone (k f) (h.1 f))

  -- ---- lists

  abbrev pub PartsRide : List Part → List Part → Type 0
  PartsRide [] [] = Unit {0}
  PartsRide [] (q ∷ qs) = ⊥
  PartsRide (p ∷ ps) [] = ⊥
  PartsRide (p ∷ ps) (q ∷ qs) = (p.label ≡ q.label) × PlanRides as' Outside p.does q.does × PartsRide ps qs

  same_labels : (l : ℕ) (ps qs : List Part) → PartsRide ps qs → has_label l ps ≡ has_label l qs
  same_labels l [] [] h = refl
  same_labels l [] (q ∷ qs) h = absurd h
  same_labels l (p ∷ ps) [] h = absurd h
  same_labels l (p ∷ ps) (q ∷ qs) h = ap (λ z. is_label l z || has_label l ps) h.0 ∙ ap (λ b. is_label l q.label || b) (same_labels l ps qs h.2)

  parts_at : (l : ℕ) (ps qs : List Part) → PartsRide ps qs → PartsRide (from_label l ps) (from_label l qs)
  parts_at l [] [] h = tt
  parts_at l [] (q ∷ qs) h = absurd h
  parts_at l (p ∷ ps) [] h = absurd h
  parts_at l (p ∷ ps) (q ∷ qs) h = go (is_label l p.label) (is_label l q.label) (ap (is_label l) h.0) (parts_at l ps qs h.2)
    where
      go : (b c : Bool) → b ≡ c → PartsRide (from_label l ps) (from_label l qs) → PartsRide (if b then p ∷ ps else from_label l ps) (if c then q ∷ qs else from_label l qs)
      go true true e ih = h
      go false false e ih = ih
      go true false e ih = cc
      go false true e ih = cc

  goes_on : (jump hop : ℕ → Plan) (all also : List Part) (rest other : Plan) → PartsRide all also → ((l : ℕ) → PlanRides as' Outside (jump l) (hop l)) → PlanRides as' Outside rest other →
      (f : Flow) → PlanRides as' Outside (go_on jump all rest f) (go_on hop also other f)
  goes_on jump hop all also rest other a j r Normal = r
  goes_on jump hop all also rest other a j r (Jump l) = go (has_label l all) (has_label l also) (same_labels l all also a)
    where
      go : (b c : Bool) → b ≡ c → PlanRides as' Outside (if b then jump l else Ends (Jump l)) (if c then hop l else Ends (Jump l))
      go true true e = j l
      go false false e = refl
      go true false e = cc
      go false true e = cc
  goes_on jump hop all also rest other a j r Returned = refl
  goes_on jump hop all also rest other a j r Stopped = refl

  orders : (jump hop : ℕ → Plan) (all also ps qs : List Part) → PartsRide all also → ((l : ℕ) → PlanRides as' Outside (jump l) (hop l)) → PartsRide ps qs → PlanRides as' Outside (in_order jump all ps) (in_order hop also qs)
  orders jump hop all also [] [] a j h = refl
  orders jump hop all also [] (q ∷ qs) a j h = absurd h
  orders jump hop all also (p ∷ ps) [] a j h = absurd h
  orders jump hop all also (p ∷ ps) (q ∷ qs) a j h =
      plans_then Outside p.does q.does (go_on jump all (in_order jump all ps)) (go_on hop also (in_order hop also qs)) h.1
      (goes_on jump hop all also (in_order jump all ps) (in_order hop also qs) a j (orders jump hop all also ps qs a j h.2))

  jumps : (n : ℕ) (all also ps qs : List Part) → PartsRide all also → PartsRide ps qs → PlanRides as' Outside (with_jumps n all ps) (with_jumps n also qs)
  jumps zero all also ps qs a h = orders (λ l. Breaks OutOfTurns) (λ l. Breaks OutOfTurns) all also ps qs a (λ l. tt) h
  jumps (suc n) all also ps qs a h =
      orders (λ l. with_jumps n all (from_label l all)) (λ l. with_jumps n also (from_label l also)) all also ps qs a (λ l. jumps n all also (from_label l all) (from_label l also) a (parts_at l all also a)) h

  pub lists_ride : (turns : ℕ) (ps qs : List Part) → PartsRide ps qs → PlanRides as' Outside (list_plan turns ps) (list_plan turns qs)
  lists_ride turns ps qs h = jumps turns ps qs ps qs h h

  normals : (f : Flow) (t h : Plan) → PlanRides as' Outside t h → PlanRides as' Outside (on_normal f t) (on_normal f h)
  normals Normal t h r = r
  normals (Jump l) t h r = refl
  normals Returned t h r = refl
  normals Stopped t h r = refl

  pub iterations_ride : (k : ℕ) (n step : ℤ) (u : ℕ) (body other : Plan) → operator_at as' u ≡ None → PlanRides as' Outside body other → PlanRides as' Outside (iterations_from k n step u body) (iterations_from k n step u other)
  iterations_ride zero n step u body other f r = refl
  iterations_ride (suc k) n step u body other f r =
      plans_then Outside body other (λ x. on_normal x (first (given Int (kept (n +ℤ step))) (λ c. Set u c (iterations_from k c.number step u body)))) (λ x. on_normal x (first (given Int (kept (n +ℤ step))) (λ c. Set u c (iterations_from k c.number step u other)))) r
      (λ x. normals x (first (given Int (kept (n +ℤ step))) (λ c. Set u c (iterations_from k c.number step u body))) (first (given Int (kept (n +ℤ step))) (λ c. Set u c (iterations_from k c.number step u other)))
      (goes (kept (n +ℤ step)) (λ m. iterations_ride k m step u body other f r)))
    where
      goes : (o : Option ℤ) → ((m : ℤ) → PlanRides as' Outside (iterations_from k m step u body) (iterations_from k m step u other)) →
          PlanRides as' Outside (first (given Int o) (λ c. Set u c (iterations_from k c.number step u body))) (first (given Int o) (λ c. Set u c (iterations_from k c.number step u other)))
      goes None ih = tt
      goes (Some m) ih = (refl, refl, f, ih m)
