-- The iterations of a loop, whose body is a computation: on the store, and on a script.
use Rattle.std.specs.Prelude.{◌≡◌, ℕ, zero, suc, ◌<◌, List, [], length, Bool, true, false, not, ◌&&◌, ◌||◌, nat_eq, slice_get}
use Rattle.f77_ast.specs.Store.{Int, Store, content, put, undefined}
use Rattle.f77_ast.specs.Steps.{Steps, Done, Breaks, Look, Set, Hold, Forget, Show, Take, Arrive}
use Rattle.f77_ast.specs.Runs.{Event, Ran, Whole, Script, Gave, run, store_of}
use Rattle.f77_ast.specs.Plans.{Flow, Normal, Plan, steps_of}
use Rattle.f77_ast.specs.Loops.{iterations_from}
use Rattle.f77_meaning.specs.Interleavings.{Process, World, Finished}
use Rattle.f77_meaning.specs.Processes.{Marked, number_in, shared, answers, action_after, process}
use Rattle.laws_interleavings.specs.Alone.{NoneMeet, AsInOrder}

abbrev pub on_store : Steps Flow → Store → Ran Flow
on_store t s = run t (Whole s) []

-- the next action of a computation with private units, by the reads and writes of others that it has done
abbrev pub scripted : Steps Flow → (ℕ → Bool) → Store → Process
scripted t private own did = let r = run t (Script private own (answers did)) [] in action_after (slice_get (shared private r.trace) (length did)) r.answer

abbrev pub with_unit : ℕ → (ℕ → Bool) → ℕ → Bool
with_unit u known x = nat_eq x u || known x

abbrev pub without_unit : ℕ → (ℕ → Bool) → ℕ → Bool
without_unit u known x = not (nat_eq x u) && known x

-- in the run from the store each private unit that is read is known, from the start or by a write, and only private units change without an event; no input is taken
abbrev pub OwnFirst : (ℕ → Bool) → Steps Flow → (ℕ → Bool) → Store → Type 0
OwnFirst p (Done a) known s = Unit {0}
OwnFirst p (Breaks b) known s = Unit {0}
OwnFirst p (Look u k) known s = (p u ≡ true → known u ≡ true) × OwnFirst p (k (s u)) known s
OwnFirst p (Set u c t) known s = OwnFirst p t (with_unit u known) (put s u c)
OwnFirst p (Hold u c t) known s = (p u ≡ true) × OwnFirst p t (with_unit u known) (put s u c)
OwnFirst p (Forget u t) known s = (p u ≡ true) × OwnFirst p t (without_unit u known) (put s u (undefined (s u)))
OwnFirst p (Show xs t) known s = OwnFirst p t known s
OwnFirst p (Take k) known s = ⊥
OwnFirst p (Arrive a t) known s = OwnFirst p t known s

-- the store where an iteration begins, one after the other
abbrev pub begun : Marked → Store → ℕ → Store
begun m s zero = put s m.index (content Int m.first)
begun m s (suc i) = put (store_of (on_store (steps_of m.body) (begun m s i)).memory) m.index (content Int (number_in m.first m.step (suc i)))

-- what an iteration does to units that are not private
abbrev pub does : Marked → Store → ℕ → List Event
does m s i = shared m.private (on_store (steps_of m.body) (begun m s i)).trace

-- the loop, once its variable has its first number
abbrev pub loop_plan : Marked → Plan
loop_plan m = iterations_from m.count m.first m.step m.index m.body

abbrev pub whole_loop : Marked → Store → Ran Flow
whole_loop m s = on_store (steps_of (loop_plan m)) (begun m s 0)

-- the loop ends normally, reads private units only after its own writes, and no two of its iterations meet in a unit that one of them writes
pub record MayInterleave (m : Marked) (s : Store) : Type 0 where
  pub index_private : m.private m.index ≡ true
  pub normal : (whole_loop m s).answer ≡ Gave Normal
  pub own_first : (i : ℕ) → i < m.count → OwnFirst m.private (steps_of m.body) (λ x. nat_eq x m.index) (begun m s i)
  pub apart : NoneMeet m.count (does m s)

-- what holds of its processes after any picks; where all have finished, the shared store has what the loop leaves in units that are not private
pub record LoopInterleaves (m : Marked) (s : Store) (picks : List ℕ) (w : World) : Type 0 where
  pub steps : AsInOrder (process m) m.count s (does m s) picks w
  pub ends : ((i : ℕ) → i < m.count → process m i (w.did i) ≡ Finished) → (x : ℕ) → m.private x ≡ false → w.store x ≡ store_of (whole_loop m s).memory x
