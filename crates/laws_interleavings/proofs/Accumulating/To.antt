-- Two computations of which the second rides on the first, up to what they give: one after the other.
use Rattle.std.proofs.Common.{◌≡◌, ℕ, ℤ, List, Option, None, Some, false, refl}
use Rattle.std.specs.Prelude.{MatchOption}
use Rattle.f77_ast.specs.Store.{Content, content, same_tag}
use Rattle.f77_ast.specs.Steps.{Steps, Done, Breaks, Look, Set, Hold, Forget, Show, Take, Arrive, ◌>>=◌}
use Rattle.laws_interleavings.specs.Faults.{StepsFault}
use Rattle.laws_interleavings.specs.Reductions.{ReduceOp, tag_of, Accumulator, operator_at}
use Rattle.laws_interleavings.specs.Rides.{Phase, Outside, Inside, Accumulates, Rides}

-- as Rides, but that in the end a relation holds of the phase and of what they give
abbrev pub RidesTo : {A B : Type 0} → List Accumulator → (Phase → A → B → Type 0) → Phase → Steps A → Steps B → Type 0
RidesTo as' Q phase (Done a) (Done b) = Q phase a b
RidesTo as' Q Outside (Breaks b) t = Unit {0}
RidesTo as' Q Outside (Look u k) (Look x h) =
    (u ≡ x)
    × MatchOption (operator_at as' u) ((c : Content) → RidesTo as' Q Outside (k c) (h c))
    (λ o. ((c : Content) → same_tag (tag_of o) c.tag ≡ false → StepsFault (k c)) × ((m n : ℤ) → RidesTo as' Q (Inside u o m n) (k (content (tag_of o) m)) (h (content (tag_of o) n))))
RidesTo as' Q Outside (Set u c t) (Set x e h) = (u ≡ x) × (c ≡ e) × (operator_at as' u ≡ None) × RidesTo as' Q Outside t h
RidesTo as' Q Outside (Hold u c t) (Hold x e h) = (u ≡ x) × (c ≡ e) × (operator_at as' u ≡ None) × RidesTo as' Q Outside t h
RidesTo as' Q Outside (Forget u t) (Forget x h) = (u ≡ x) × (operator_at as' u ≡ None) × RidesTo as' Q Outside t h
RidesTo as' Q Outside (Show xs t) (Show ys h) = (xs ≡ ys) × RidesTo as' Q Outside t h
RidesTo as' Q Outside (Take k) (Take h) = (o : Option Content) → RidesTo as' Q Outside (k o) (h o)
RidesTo as' Q Outside (Arrive p t) (Arrive q h) = (p ≡ q) × RidesTo as' Q Outside t h
RidesTo as' Q (Inside v o m n) (Breaks b) t = Unit {0}
RidesTo as' Q (Inside v o m n) (Look u k) (Look x h) = (u ≡ x) × (operator_at as' u ≡ None) × ((c : Content) → RidesTo as' Q (Inside v o m n) (k c) (h c))
RidesTo as' Q (Inside v o m n) (Set u c t) (Set x e h) = (u ≡ v) × (x ≡ v) × Accumulates o m n c e × RidesTo as' Q Outside t h
RidesTo as' Q phase t h = ⊥

-- in the end both give the same, and no accumulation is open
abbrev pub Same : {A : Type 0} → Phase → A → A → Type 0
Same Outside a b = a ≡ b
Same (Inside v o m n) a b = ⊥

fault_then : {A B : Type 0} (t : Steps A) (f : A → Steps B) → StepsFault t → StepsFault (t >>= f)
fault_then (Breaks b) f h = h
fault_then (Done a) f h = absurd h
fault_then (Look u k) f h = absurd h
fault_then (Set u c t) f h = absurd h
fault_then (Hold u c t) f h = absurd h
fault_then (Forget u t) f h = absurd h
fault_then (Show xs t) f h = absurd h
fault_then (Take k) f h = absurd h
fault_then (Arrive p t) f h = absurd h

match_more : (op : Option ReduceOp) (A A' : Type 0) (B B' : ReduceOp → Type 0) → MatchOption op A B → (A → A') → ((o : ReduceOp) → B o → B' o) → MatchOption op A' B'
match_more None A A' B B' h f g = f h
match_more (Some o) A A' B B' h f g = g o h

module _ (as' : List Accumulator) where
  -- one computation after the other
  pub rides_then : {A B C D : Type 0} (Q : Phase → A → B → Type 0) (R : Phase → C → D → Type 0) (phase : Phase) (t : Steps A) (h : Steps B) (f : A → Steps C) (g : B → Steps D) → RidesTo as' Q phase t h →
      ((p : Phase) (a : A) (b : B) → Q p a b → RidesTo as' R p (f a) (g b)) → RidesTo as' R phase (t >>= f) (h >>= g)
  rides_then Q R Outside (Done a) (Done b) f g r n = n Outside a b r
  rides_then Q R (Inside v o i j) (Done a) (Done b) f g r n = n (Inside v o i j) a b r
  rides_then Q R Outside (Breaks b) h f g r n = tt
  rides_then Q R (Inside v o m l) (Breaks b) h f g r n = tt
  rides_then Q R Outside (Look u k) (Look x h) f g r n = (
    r.0,
    match_more (operator_at as' u) ((c : Content) → RidesTo as' Q Outside (k c) (h c)) ((c : Content) → RidesTo as' R Outside (k c >>= f) (h c >>= g))
        (λ o. ((c : Content) → same_tag (tag_of o) c.tag ≡ false → StepsFault (k c)) × ((i j : ℤ) → RidesTo as' Q (Inside u o i j) (k (content (tag_of o) i)) (h (content (tag_of o) j))))
        (λ o. ((c : Content) → same_tag (tag_of o) c.tag ≡ false → StepsFault (k c >>= f)) × ((i j : ℤ) → RidesTo as' R (Inside u o i j) (k (content (tag_of o) i) >>= f) (h (content (tag_of o) j) >>= g)))
        r.1 (λ q c. rides_then Q R Outside (k c) (h c) f g (q c) n)
        (λ o q. ((λ c e. fault_then (k c) f (q.0 c e)), λ i j. rides_then Q R (Inside u o i j) (k (content (tag_of o) i)) (h (content (tag_of o) j)) f g (q.1 i j) n)),
  )
  rides_then Q R Outside (Set u c t) (Set x e h) f g r n = (r.0, r.1, r.2, rides_then Q R Outside t h f g r.3 n)
  rides_then Q R Outside (Hold u c t) (Hold x e h) f g r n = (r.0, r.1, r.2, rides_then Q R Outside t h f g r.3 n)
  rides_then Q R Outside (Forget u t) (Forget x h) f g r n = (r.0, r.1, rides_then Q R Outside t h f g r.2 n)
  rides_then Q R Outside (Show xs t) (Show ys h) f g r n = (r.0, rides_then Q R Outside t h f g r.1 n)
  rides_then Q R Outside (Take k) (Take h) f g r n = λ o. rides_then Q R Outside (k o) (h o) f g (r o) n
  rides_then Q R Outside (Arrive p t) (Arrive q h) f g r n = (r.0, rides_then Q R Outside t h f g r.1 n)
  rides_then Q R (Inside v o i j) (Look u k) (Look x h) f g r n = (r.0, r.1, λ c. rides_then Q R (Inside v o i j) (k c) (h c) f g (r.2 c) n)
  rides_then Q R (Inside v o i j) (Set u c t) (Set x e h) f g r n = (r.0, r.1, r.2, rides_then Q R Outside t h f g r.3 n)
  rides_then Q R phase t h f g r n = absurd r

  -- without a relation of its own
  pub rides_same : {A : Type 0} (phase : Phase) (t h : Steps A) → RidesTo as' Same phase t h → Rides as' phase t h
  rides_same Outside (Done a) (Done b) r = r
  rides_same (Inside v o i j) (Done a) (Done b) r = absurd r
  rides_same Outside (Breaks b) h r = tt
  rides_same (Inside v o i j) (Breaks b) h r = tt
  rides_same Outside (Look u k) (Look x h) r = (
    r.0,
    match_more (operator_at as' u) ((c : Content) → RidesTo as' Same Outside (k c) (h c)) ((c : Content) → Rides as' Outside (k c) (h c))
        (λ o. ((c : Content) → same_tag (tag_of o) c.tag ≡ false → StepsFault (k c)) × ((i j : ℤ) → RidesTo as' Same (Inside u o i j) (k (content (tag_of o) i)) (h (content (tag_of o) j))))
        (λ o. ((c : Content) → same_tag (tag_of o) c.tag ≡ false → StepsFault (k c)) × ((i j : ℤ) → Rides as' (Inside u o i j) (k (content (tag_of o) i)) (h (content (tag_of o) j))))
        r.1 (λ q c. rides_same Outside (k c) (h c) (q c)) (λ o q. (q.0, λ i j. rides_same (Inside u o i j) (k (content (tag_of o) i)) (h (content (tag_of o) j)) (q.1 i j))),
  )
  rides_same Outside (Set u c t) (Set x e h) r = (r.0, r.1, r.2, rides_same Outside t h r.3)
  rides_same Outside (Hold u c t) (Hold x e h) r = (r.0, r.1, r.2, rides_same Outside t h r.3)
  rides_same Outside (Forget u t) (Forget x h) r = (r.0, r.1, rides_same Outside t h r.2)
  rides_same Outside (Show xs t) (Show ys h) r = (r.0, rides_same Outside t h r.1)
  rides_same Outside (Take k) (Take h) r = λ o. rides_same Outside (k o) (h o) (r o)
  rides_same Outside (Arrive p t) (Arrive q h) r = (r.0, rides_same Outside t h r.1)
  rides_same (Inside v o i j) (Look u k) (Look x h) r = (r.0, r.1, λ c. rides_same (Inside v o i j) (k c) (h c) (r.2 c))
  rides_same (Inside v o i j) (Set u c t) (Set x e h) r = (r.0, r.1, r.2, rides_same Outside t h r.3)
  rides_same phase t h r = absurd r

  -- steps that touch no reduction variable ride on themselves, outside accumulations and, where they only read, inside one
  abbrev pub Clear : {A : Type 0} → Steps A → Type 0
  Clear (Done a) = Unit {0}
  Clear (Breaks b) = Unit {0}
  Clear (Look u k) = (operator_at as' u ≡ None) × ((c : Content) → Clear (k c))
  Clear (Set u c t) = (operator_at as' u ≡ None) × Clear t
  Clear (Hold u c t) = (operator_at as' u ≡ None) × Clear t
  Clear (Forget u t) = (operator_at as' u ≡ None) × Clear t
  Clear (Show xs t) = Clear t
  Clear (Take k) = (o : Option Content) → Clear (k o)
  Clear (Arrive p t) = Clear t

  abbrev pub Both : {A : Type 0} → Phase → Phase → A → A → Type 0
  Both phase p a b = (p ≡ phase) × (a ≡ b)

  pub match_none : (op : Option ReduceOp) (A : Type 0) (B : ReduceOp → Type 0) → op ≡ None → A → MatchOption op A B
  match_none None A B e h = h
  match_none (Some o) A B e h = cc

  pub rides_alone : {A : Type 0} (t : Steps A) → Clear t → RidesTo as' (Both Outside) Outside t t
  rides_alone (Done a) r = (refl, refl)
  rides_alone (Breaks b) r = tt
  rides_alone (Look u k) r = (refl, match_none (operator_at as' u) _ _ r.0 (λ c. rides_alone (k c) (r.1 c)))
  rides_alone (Set u c t) r = (refl, refl, r.0, rides_alone t r.1)
  rides_alone (Hold u c t) r = (refl, refl, r.0, rides_alone t r.1)
  rides_alone (Forget u t) r = (refl, r.0, rides_alone t r.1)
  rides_alone (Show xs t) r = (refl, rides_alone t r)
  rides_alone (Take k) r = λ o. rides_alone (k o) (r o)
  rides_alone (Arrive p t) r = (refl, rides_alone t r)

  -- reads alone, of units of no reduction variable
  abbrev pub Reads : {A : Type 0} → Steps A → Type 0
  Reads (Done a) = Unit {0}
  Reads (Breaks b) = Unit {0}
  Reads (Look u k) = (operator_at as' u ≡ None) × ((c : Content) → Reads (k c))
  Reads (Set u c t) = ⊥
  Reads (Hold u c t) = ⊥
  Reads (Forget u t) = ⊥
  Reads (Show xs t) = ⊥
  Reads (Take k) = ⊥
  Reads (Arrive p t) = ⊥

  pub reads_clear : {A : Type 0} (t : Steps A) → Reads t → Clear t
  reads_clear (Done a) r = tt
  reads_clear (Breaks b) r = tt
  reads_clear (Look u k) r = (r.0, λ c. reads_clear (k c) (r.1 c))
  reads_clear (Set u c t) r = absurd r
  reads_clear (Hold u c t) r = absurd r
  reads_clear (Forget u t) r = absurd r
  reads_clear (Show xs t) r = absurd r
  reads_clear (Take k) r = absurd r
  reads_clear (Arrive p t) r = absurd r

  pub rides_inside : {A : Type 0} (v : ℕ) (o : ReduceOp) (m n : ℤ) (t : Steps A) → Reads t → RidesTo as' (Both (Inside v o m n)) (Inside v o m n) t t
  rides_inside v o m n (Done a) r = (refl, refl)
  rides_inside v o m n (Breaks b) r = tt
  rides_inside v o m n (Look u k) r = (refl, r.0, λ c. rides_inside v o m n (k c) (r.1 c))
  rides_inside v o m n (Set u c t) r = absurd r
  rides_inside v o m n (Hold u c t) r = absurd r
  rides_inside v o m n (Forget u t) r = absurd r
  rides_inside v o m n (Show xs t) r = absurd r
  rides_inside v o m n (Take k) r = absurd r
  rides_inside v o m n (Arrive p t) r = absurd r

  pub reads_then : {A B : Type 0} (t : Steps A) (f : A → Steps B) → Reads t → ((a : A) → Reads (f a)) → Reads (t >>= f)
  reads_then (Done a) f r n = n a
  reads_then (Breaks b) f r n = tt
  reads_then (Look u k) f r n = (r.0, λ c. reads_then (k c) f (r.1 c) n)
  reads_then (Set u c t) f r n = absurd r
  reads_then (Hold u c t) f r n = absurd r
  reads_then (Forget u t) f r n = absurd r
  reads_then (Show xs t) f r n = absurd r
  reads_then (Take k) f r n = absurd r
  reads_then (Arrive p t) f r n = absurd r
