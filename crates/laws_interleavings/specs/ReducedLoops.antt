-- When a loop with reduction variables does what it does one iteration after the other.
use Rattle.std.specs.Prelude.{◌≡◌, ℕ, ◌<◌, List, [], ◌∷◌, Some, None, Bool, true, false, not, ◌&&◌, if◌then◌else◌, nat_eq, ℤ}
use Rattle.f77_ast.specs.Store.{Undefined, Store}
use Rattle.f77_ast.specs.Numbers.{in_range}
use Rattle.f77_ast.specs.Plans.{Normal, steps_of}
use Rattle.f77_ast.specs.Runs.{Event, Gave}
use Rattle.f77_meaning.specs.Accesses.{is_read_first}
use Rattle.f77_meaning.specs.Processes.{shared}
use Rattle.laws_interleavings.specs.Alone.{NoneMeet}
use Rattle.laws_interleavings.specs.Iterations.{on_store, OwnFirst, begun, whole_loop}
use Rattle.laws_interleavings.specs.Reductions.{ReduceOp, Sum, Max, Min, And, Or, tag_of, Accumulator, operator_at, is_accumulator, Reduced, own}
use Rattle.laws_interleavings.specs.Rides.{Outside, Rides}
use Rattle.laws_interleavings.specs.LoopRuns.{known_at, ReadsKnown, some_wrote, store_left, NoTake, printed_by, is_own}

-- what an iteration of the loop without reductions does to units that no process has for itself
abbrev pub reduced_does : Reduced → Store → ℕ → List Event
reduced_does d s i = shared (own d) (on_store (steps_of d.loop.body) (begun d.loop s i)).trace

-- no two of them have one unit
abbrev pub AreDistinct : List Accumulator → Type 0
AreDistinct [] = Unit {0}
AreDistinct (a ∷ as') = (operator_at as' a.unit ≡ None) × AreDistinct as'

-- the loop ends normally, reads private units only after its own writes; no two of its iterations meet in a unit that one of them writes, but in reduction variables; and
-- its body uses these to accumulate alone
pub record MayReduce (d : Reduced) (s : Store) : Type 0 where
  pub index_private : d.loop.private d.loop.index ≡ true
  pub normal : (whole_loop d.loop s).answer ≡ Gave Normal
  pub own_first : (i : ℕ) → i < d.loop.count → OwnFirst d.loop.private (steps_of d.loop.body) (λ x. nat_eq x d.loop.index) (begun d.loop s i)
  pub apart : NoneMeet d.loop.count (reduced_does d s)
  pub rides : Rides d.accumulators Outside (steps_of d.loop.body) (steps_of d.body)
  pub distinct : AreDistinct d.accumulators
  pub none_private : (x : ℕ) → is_accumulator d.accumulators x ≡ true → d.loop.private x ≡ false

-- of a number that MAX or MIN is to be combined with: it is in the range of INTEGER, as the number is that a copy begins with
abbrev pub HasRange : ReduceOp → ℤ → Type 0
HasRange Sum n = Unit {0}
HasRange Max n = in_range n ≡ true
HasRange Min n = in_range n ≡ true
HasRange And n = Unit {0}
HasRange Or n = Unit {0}

-- so it is of each reduction variable that has a value of its type before the loop
abbrev pub HaveRange : Reduced → Store → Type 0
HaveRange d s = (x : ℕ) (o : ReduceOp) → operator_at d.accumulators x ≡ Some o → (s x).tag ≡ tag_of o → HasRange o (s x).number

-- after the loop: a reduction variable is known where it was before
abbrev pub known_reduced : Reduced → (ℕ → Bool) → Store → ℕ → Bool
known_reduced d known s x =
    if nat_eq x d.loop.index then false
    else if d.loop.named x then (not (some_wrote d.loop s d.loop.count x) && known x)
    else if d.loop.private x then true
    else if is_accumulator d.accumulators x then known x
    else known_at (reduced_does d s) known d.loop.count x

-- a loop with reduction variables that may be interleaved where it is begun with this store
pub record ReducedSound (d : Reduced) (known : ℕ → Bool) (s : Store) : Type 0 where
  pub may : MayReduce d s
  pub names_private : (x : ℕ) → d.loop.named x ≡ true → d.loop.private x ≡ true
  pub reads : (i : ℕ) → i < d.loop.count → ReadsKnown (known_at (reduced_does d s) known i) (reduced_does d s i)
  pub silent : printed_by (whole_loop d.loop s).trace ≡ []
  pub takes_nothing : NoTake (whole_loop d.loop s).trace
  pub own_before : (x : ℕ) → is_own d.loop x ≡ true → (s x).tag ≡ Undefined
  pub own_after : (x : ℕ) → is_own d.loop x ≡ true → (store_left d.loop s x).tag ≡ Undefined
  pub unwritten : (x : ℕ) → d.loop.named x ≡ true → nat_eq x d.loop.index ≡ false → some_wrote d.loop s d.loop.count x ≡ false → store_left d.loop s x ≡ s x
  pub have_range : HaveRange d s
  -- a reduction variable that some iteration writes is known before the loop, and has a value of its type
  pub before : (x : ℕ) (o : ReduceOp) → operator_at d.accumulators x ≡ Some o → some_wrote d.loop s d.loop.count x ≡ true → (known x ≡ true) × ((s x).tag ≡ tag_of o)

-- what is claimed of one execution of such a loop, begun with this store, and of what the run does later
pub record ReducedHolds (d : Reduced) (s : Store) (later : List Event) : Type 0 where
  pub may : MayReduce d s
  pub names_private : (x : ℕ) → d.loop.named x ≡ true → d.loop.private x ≡ true
  pub silent : printed_by (whole_loop d.loop s).trace ≡ []
  pub takes_nothing : NoTake (whole_loop d.loop s).trace
  -- private units that belong to no name have no value before it and after it
  pub own_before : (x : ℕ) → is_own d.loop x ≡ true → (s x).tag ≡ Undefined
  pub own_after : (x : ℕ) → is_own d.loop x ≡ true → (store_left d.loop s x).tag ≡ Undefined
  pub unwritten : (x : ℕ) → d.loop.named x ≡ true → nat_eq x d.loop.index ≡ false → some_wrote d.loop s d.loop.count x ≡ false → store_left d.loop s x ≡ s x
  -- its variable, and what some iteration wrote of a private name of the directive, is not read before it is written again
  pub index_later : is_read_first d.loop.index later ≡ false
  pub named_later : (x : ℕ) → d.loop.named x ≡ true → some_wrote d.loop s d.loop.count x ≡ true → is_read_first x later ≡ false
  pub have_range : HaveRange d s
