-- What is claimed of the marked loops of a program, and of what its run does after them.
use Rattle.std.specs.Prelude.{◌≡◌, ℕ, List, [], ◌++◌, true, false, nat_eq}
use Rattle.f77_ast.specs.Store.{Undefined, Content, Store, put, undefined}
use Rattle.f77_ast.specs.Plans.{Flow, Normal}
use Rattle.f77_ast.specs.Runs.{Event, Answer, Gave, Broke, first_of, rest_of, store_of}
use Rattle.f77_meaning.specs.Accesses.{is_read_first}
use Rattle.f77_meaning.specs.Processes.{Marked}
use Rattle.laws_interleavings.specs.Iterations.{whole_loop, MayInterleave}
use Rattle.laws_interleavings.specs.Marks.{MarkedPlan, Ends, Breaks, Look, Set, Hold, Forget, Show, Take, Within, Loop, Reduce, plain_run}
use Rattle.laws_interleavings.specs.ReducedLoops.{ReducedHolds}
use Rattle.laws_interleavings.specs.Sound.{some_wrote, store_left, NoTake, printed_by, is_own, OnGave}

-- what the run does after a part of it
abbrev pub later_events : Answer Flow → Store → List Content → (Flow → MarkedPlan) → List Event → List Event
later_events (Gave f) y i k rest = (plain_run (k f) y i).trace ++ rest
later_events (Broke b) y i k rest = []

-- of one execution of a marked loop, begun with this store, and of what the run does later
pub record LoopHolds (m : Marked) (s : Store) (later : List Event) : Type 0 where
  pub may : MayInterleave m s
  pub names_private : (x : ℕ) → m.named x ≡ true → m.private x ≡ true
  pub silent : printed_by (whole_loop m s).trace ≡ []
  pub takes_nothing : NoTake (whole_loop m s).trace
  -- private units that belong to no name have no value before it and after it
  pub own_before : (x : ℕ) → is_own m x ≡ true → (s x).tag ≡ Undefined
  pub own_after : (x : ℕ) → is_own m x ≡ true → (store_left m s x).tag ≡ Undefined
  pub unwritten : (x : ℕ) → m.named x ≡ true → nat_eq x m.index ≡ false → some_wrote m s m.count x ≡ false → store_left m s x ≡ s x
  -- its variable, and what some iteration wrote of a name of the directive, is not read before it is written again
  pub index_later : is_read_first m.index later ≡ false
  pub named_later : (x : ℕ) → m.named x ≡ true → some_wrote m s m.count x ≡ true → is_read_first x later ≡ false

-- so it is of each marked loop that the plain run meets, outside other marked loops
abbrev pub MarksHold : MarkedPlan → Store → List Content → List Event → Type 0
MarksHold (Ends f) s i rest = Unit {0}
MarksHold (Breaks b) s i rest = Unit {0}
MarksHold (Look u k) s i rest = MarksHold (k (s u)) s i rest
MarksHold (Set u c t) s i rest = MarksHold t (put s u c) i rest
MarksHold (Hold u c t) s i rest = MarksHold t (put s u c) i rest
MarksHold (Forget u t) s i rest = MarksHold t (put s u (undefined (s u))) i rest
MarksHold (Show xs t) s i rest = MarksHold t s i rest
MarksHold (Take k) s i rest = MarksHold (k (first_of i)) s (rest_of i) rest
MarksHold (Within p at t k) s i rest =
    let q = plain_run t s i in
    MarksHold t s i (later_events q.answer (store_of q.memory) q.input k rest) × OnGave q.answer (store_of q.memory) (λ f y. MarksHold (k f) y q.input rest)
MarksHold (Loop m k) s i rest = LoopHolds m s ((plain_run (k Normal) (store_left m s) i).trace ++ rest) × MarksHold (k Normal) (store_left m s) i rest
MarksHold (Reduce d k) s i rest = ReducedHolds d s ((plain_run (k Normal) (store_left d.loop s) i).trace ++ rest) × MarksHold (k Normal) (store_left d.loop s) i rest
