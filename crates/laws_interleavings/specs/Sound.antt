-- When a run by a schedule does what the plain run does.
use Rattle.std.specs.Prelude.{◌≡◌, ◌⊎◌, ℕ, ◌+◌, ◌*◌, List, ◌++◌, Bool, true, false, ◌||◌, nat_eq, length, ◌≤◌}
use Rattle.std.specs.List.{list_any}
use Rattle.f77_ast.specs.Store.{Undefined, Content, Store, put, undefined}
use Rattle.f77_ast.specs.Steps.{Shown}
use Rattle.f77_ast.specs.Plans.{Flow, Normal}
use Rattle.f77_ast.specs.Runs.{Answer, Gave, Broke, Ran, first_of, rest_of, store_of}
use Rattle.f77_meaning.specs.Processes.{Marked}
use Rattle.laws_interleavings.specs.Alone.{actions}
use Rattle.laws_interleavings.specs.Iterations.{does}
use Rattle.laws_interleavings.specs.ReducedLoops.{reduced_does, known_reduced, ReducedSound}
pub use Rattle.laws_interleavings.specs.LoopRuns.{grow, known_at, ReadsKnown, some_wrote, known_after, store_left, NoTake, printed_by, is_own, LoopSound}
use Rattle.laws_interleavings.specs.Marks.{MarkedPlan, Ends, Breaks, Look, Set, Hold, Forget, Show, Take, Within, Loop, Reduce, plain_run, Outcome, Ended, Broken, OutOfPicks, Parallel, first_picks, other_picks}

-- by how a part ended
abbrev pub on_gave : {X : Type 0} → Answer Flow → Store → X → (Flow → Store → X) → X
on_gave (Gave f) s x next = next f s
on_gave (Broke b) s x next = x

abbrev pub OnGave : Answer Flow → Store → (Flow → Store → Type 0) → Type 0
OnGave (Gave f) s next = next f s
OnGave (Broke b) s next = Unit {0}

-- what is known at the end
abbrev pub known_end : MarkedPlan → (ℕ → Bool) → Store → List Content → ℕ → Bool
known_end (Ends f) known s i = known
known_end (Breaks b) known s i = known
known_end (Look u k) known s i = known_end (k (s u)) known s i
known_end (Set u c t) known s i = known_end t (λ x. nat_eq x u || known x) (put s u c) i
known_end (Hold u c t) known s i = known_end t (λ x. nat_eq x u || known x) (put s u c) i
known_end (Forget u t) known s i = known_end t (λ x. nat_eq x u || known x) (put s u (undefined (s u))) i
known_end (Show xs t) known s i = known_end t known s i
known_end (Take k) known s i = known_end (k (first_of i)) known s (rest_of i)
known_end (Within p at t k) known s i = let q = plain_run t s i in on_gave q.answer (store_of q.memory) (known_end t known s i) (λ f y. known_end (k f) (known_end t known s i) y q.input)
known_end (Loop m k) known s i = known_end (k Normal) (known_after m known s) (store_left m s) i
known_end (Reduce d k) known s i = known_end (k Normal) (known_reduced d known s) (store_left d.loop s) i

-- what is left of the schedule at the end
abbrev pub picks_end : MarkedPlan → Store → List (List ℕ) → List Content → List (List ℕ)
picks_end (Ends f) s ls i = ls
picks_end (Breaks b) s ls i = ls
picks_end (Look u k) s ls i = picks_end (k (s u)) s ls i
picks_end (Set u c t) s ls i = picks_end t (put s u c) ls i
picks_end (Hold u c t) s ls i = picks_end t (put s u c) ls i
picks_end (Forget u t) s ls i = picks_end t (put s u (undefined (s u))) ls i
picks_end (Show xs t) s ls i = picks_end t s ls i
picks_end (Take k) s ls i = picks_end (k (first_of i)) s ls (rest_of i)
picks_end (Within p at t k) s ls i = let q = plain_run t s i in on_gave q.answer (store_of q.memory) (picks_end t s ls i) (λ f y. picks_end (k f) y (picks_end t s ls i) q.input)
picks_end (Loop m k) s ls i = picks_end (k Normal) (store_left m s) (other_picks ls) i
picks_end (Reduce d k) s ls i = picks_end (k Normal) (store_left d.loop s) (other_picks ls) i

-- ---- the premise, on the plain run

-- each marked loop in the plain run may be interleaved, and what it made undefined is not read before it is written
abbrev pub Sound : MarkedPlan → (ℕ → Bool) → Store → List Content → Type 0
Sound (Ends f) known s i = Unit {0}
Sound (Breaks b) known s i = Unit {0}
Sound (Look u k) known s i = (known u ≡ true) × ((s u).tag ≡ Undefined → ⊥) × Sound (k (s u)) known s i
Sound (Set u c t) known s i = Sound t (λ x. nat_eq x u || known x) (put s u c) i
Sound (Hold u c t) known s i = Sound t (λ x. nat_eq x u || known x) (put s u c) i
Sound (Forget u t) known s i = Sound t (λ x. nat_eq x u || known x) (put s u (undefined (s u))) i
Sound (Show xs t) known s i = Sound t known s i
Sound (Take k) known s i = Sound (k (first_of i)) known s (rest_of i)
Sound (Within p at t k) known s i = let q = plain_run t s i in Sound t known s i × OnGave q.answer (store_of q.memory) (λ f y. Sound (k f) (known_end t known s i) y q.input)
Sound (Loop m k) known s i = LoopSound m known s × Sound (k Normal) (known_after m known s) (store_left m s) i
Sound (Reduce d k) known s i = ReducedSound d known s × Sound (k Normal) (known_reduced d known s) (store_left d.loop s) i

-- ---- what then holds

-- the same contents, or both undefined
abbrev pub Same : Content → Content → Type 0
Same c d = (c ≡ d) ⊎ ((c.tag ≡ Undefined) × (d.tag ≡ Undefined))

-- the second store has the same contents in each unit that is known, and the others are undefined there
abbrev pub Alike : (ℕ → Bool) → Store → Store → Type 0
Alike known s z = (x : ℕ) → (known x ≡ true → Same (s x) (z x)) × (known x ≡ false → (z x).tag ≡ Undefined)

abbrev pub outcome_of : Answer Flow → Outcome
outcome_of (Gave f) = Ended f
outcome_of (Broke b) = Broken b

-- its variable's unit, or that of a name of its directive: what a marked loop may leave without a value
abbrev pub may_lose : Marked → ℕ → Bool
may_lose m x = nat_eq x m.index || m.named x

abbrev pub may_lose_one_of : List Marked → ℕ → Bool
may_lose_one_of ms x = list_any (λ m. may_lose m x) ms

-- what is not known after these loops was not known before, or is one of those units
abbrev pub IsForgotten : (before after : ℕ → Bool) → List Marked → Type 0
IsForgotten before after ms = (x : ℕ) → after x ≡ false → (before x ≡ false) ⊎ (may_lose_one_of ms x ≡ true)

pub record SameRun (known after : ℕ → Bool) (ls : List (List ℕ)) (q : Ran Flow) (r : Parallel) : Type 0 where
  pub outcome : r.outcome ≡ outcome_of q.answer
  pub printed : r.printed ≡ printed_by q.trace
  pub store : Alike after (store_of q.memory) r.store
  pub forgotten : IsForgotten known after r.loops
  pub schedule : r.schedule ≡ ls
  pub input : r.input ≡ q.input

pub record IsPrefix (ps qs : List (List Shown)) : Type 0 where
  pub rest : List (List Shown)
  pub is : ps ++ rest ≡ qs

-- the schedule was too short: what was printed is the beginning of what the plain run prints
pub record IsShort (q : Ran Flow) (r : Parallel) : Type 0 where
  pub outcome : r.outcome ≡ OutOfPicks
  pub printed : IsPrefix r.printed (printed_by q.trace)

-- a unit that has a value in the run by a schedule has that of the plain run
abbrev pub IsReadable : Ran Flow → Parallel → Type 0
IsReadable q r = (x : ℕ) → ((r.store x).tag ≡ Undefined → ⊥) → store_of q.memory x ≡ r.store x

-- and a unit that has a value in the plain run alone is one of a marked loop that was run: that of the loop's variable, or of a name of its directive. So no other loses its value
abbrev pub LosesOnlyCopies : Ran Flow → Parallel → Type 0
LosesOnlyCopies q r = (x : ℕ) → ((store_of q.memory x).tag ≡ Undefined → ⊥) → (r.store x).tag ≡ Undefined → may_lose_one_of r.loops x ≡ true

-- the two runs end alike
pub record SameEnd (q : Ran Flow) (r : Parallel) : Type 0 where
  pub outcome : r.outcome ≡ outcome_of q.answer
  pub printed : r.printed ≡ printed_by q.trace
  pub readable : IsReadable q r
  pub lost : LosesOnlyCopies q r
  pub input : r.input ≡ q.input

-- ---- schedules that are long enough

-- each marked loop that is met is given as many picks as its iterations have shared reads and writes, and one with reduction variables one more for each iteration and each variable
abbrev pub Enough : MarkedPlan → Store → List (List ℕ) → List Content → Type 0
Enough (Ends f) s ls i = Unit {0}
Enough (Breaks b) s ls i = Unit {0}
Enough (Look u k) s ls i = Enough (k (s u)) s ls i
Enough (Set u c t) s ls i = Enough t (put s u c) ls i
Enough (Hold u c t) s ls i = Enough t (put s u c) ls i
Enough (Forget u t) s ls i = Enough t (put s u (undefined (s u))) ls i
Enough (Show xs t) s ls i = Enough t s ls i
Enough (Take k) s ls i = Enough (k (first_of i)) s ls (rest_of i)
Enough (Within p at t k) s ls i = let q = plain_run t s i in Enough t s ls i × OnGave q.answer (store_of q.memory) (λ f y. Enough (k f) y (picks_end t s ls i) q.input)
Enough (Loop m k) s ls i = (actions (does m s) m.count ≤ length (first_picks ls)) × Enough (k Normal) (store_left m s) (other_picks ls) i
Enough (Reduce d k) s ls i =
    (actions (reduced_does d s) d.loop.count + d.loop.count * length d.accumulators ≤ length (first_picks ls)) × Enough (k Normal) (store_left d.loop s) (other_picks ls) i
