-- Two computations that do the same, but that each accumulates on a reduction variable of its own.
use Rattle.std.specs.Prelude.{◌≡◌, ℕ, ℤ, List, Option, None, MatchOption, false}
use Rattle.f77_ast.specs.Store.{Content, content, same_tag}
use Rattle.f77_ast.specs.Steps.{Steps, Done, Breaks, Look, Set, Hold, Forget, Show, Take, Arrive}
use Rattle.laws_interleavings.specs.Faults.{StepsFault}
use Rattle.laws_interleavings.specs.Reductions.{ReduceOp, tag_of, joined, Accumulator, operator_at}

-- outside accumulations, or inside one: its unit and its operator, and the numbers that the two computations have read there
pub data Phase : Type 0 where
  Outside : Phase
  Inside : (unit : ℕ) → ReduceOp → ℤ → ℤ → Phase

-- the write that ends an accumulation: what each has read, by the operator with one amount
pub record Accumulates (op : ReduceOp) (m n : ℤ) (c e : Content) : Type 0 where
  pub amount : ℤ
  pub first : c ≡ content (tag_of op) (joined op m amount)
  pub second : e ≡ content (tag_of op) (joined op n amount)

-- The second computation does what the first does with all units but the reduction variables. Where the first reads one of these, a content of another type is a fault
-- of the first, and so is no content; then both go on alike to a write of it, before which they read no reduction variable and write nothing. Nothing is asked where the
-- first breaks.
abbrev pub Rides : {A : Type 0} → List Accumulator → Phase → Steps A → Steps A → Type 0
Rides as' Outside (Done a) (Done b) = a ≡ b
Rides as' Outside (Breaks b) t = Unit {0}
Rides as' Outside (Look u k) (Look x h) =
    (u ≡ x)
    × MatchOption (operator_at as' u) ((c : Content) → Rides as' Outside (k c) (h c))
    (λ o. ((c : Content) → same_tag (tag_of o) c.tag ≡ false → StepsFault (k c)) × ((m n : ℤ) → Rides as' (Inside u o m n) (k (content (tag_of o) m)) (h (content (tag_of o) n))))
Rides as' Outside (Set u c t) (Set x e h) = (u ≡ x) × (c ≡ e) × (operator_at as' u ≡ None) × Rides as' Outside t h
Rides as' Outside (Hold u c t) (Hold x e h) = (u ≡ x) × (c ≡ e) × (operator_at as' u ≡ None) × Rides as' Outside t h
Rides as' Outside (Forget u t) (Forget x h) = (u ≡ x) × (operator_at as' u ≡ None) × Rides as' Outside t h
Rides as' Outside (Show xs t) (Show ys h) = (xs ≡ ys) × Rides as' Outside t h
Rides as' Outside (Take k) (Take h) = (o : Option Content) → Rides as' Outside (k o) (h o)
Rides as' Outside (Arrive p t) (Arrive q h) = (p ≡ q) × Rides as' Outside t h
Rides as' (Inside v o m n) (Breaks b) t = Unit {0}
Rides as' (Inside v o m n) (Look u k) (Look x h) = (u ≡ x) × (operator_at as' u ≡ None) × ((c : Content) → Rides as' (Inside v o m n) (k c) (h c))
Rides as' (Inside v o m n) (Set u c t) (Set x e h) = (u ≡ v) × (x ≡ v) × Accumulates o m n c e × Rides as' Outside t h
Rides as' phase t h = ⊥
