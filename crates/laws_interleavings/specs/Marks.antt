-- A program whose marked loops are interleaved: plans that keep each marked loop, their plain runs, and their runs by a schedule.
use Rattle.std.specs.Prelude.{ℕ, List, [], ◌∷◌, ◌++◌, Option}
use Rattle.f77_ast.specs.Store.{Int, Content, Store, content, put, undefined}
use Rattle.f77_ast.specs.Faults.{Unset}
use Rattle.f77_ast.specs.Steps.{Spot, Shown, Break, Faulty}
use Rattle.f77_ast.specs.Places.{Places}
use Rattle.f77_ast.specs.Plans.{Flow, Normal, Plan, ◌▹◌}
use Rattle.f77_ast.specs.Plans as plan
use Rattle.f77_ast.specs.Runs.{Ran, first_of, rest_of}
use Rattle.f77_ast.specs.Executions.{run_of}
use Rattle.f77_meaning.specs.Interleavings.{start, interleaved}
use Rattle.f77_meaning.specs.Interleavings as together
use Rattle.f77_meaning.specs.Processes.{Marked, process, store_after}
use Rattle.laws_interleavings.specs.Iterations.{loop_plan}
use Rattle.laws_interleavings.specs.Reductions.{Reduced, reduced_process, copies, Combination, AllCombined, CopiesLeft, NoValue, combined, picks_left, reduced_after}

pub data MarkedPlan : Type 0 where
  Ends : Flow → MarkedPlan
  Breaks : Break → MarkedPlan
  Look : (unit : ℕ) → (Content → MarkedPlan) → MarkedPlan
  Set : (unit : ℕ) → Content → MarkedPlan → MarkedPlan
  Hold : (unit : ℕ) → Content → MarkedPlan → MarkedPlan
  Forget : (unit : ℕ) → MarkedPlan → MarkedPlan
  Show : List Shown → MarkedPlan → MarkedPlan
  Take : (Option Content → MarkedPlan) → MarkedPlan
  Within : Spot → Places → MarkedPlan → (Flow → MarkedPlan) → MarkedPlan
  -- a marked loop that has evaluated its expressions, and what comes after it; loops in its body are not interleaved
  Loop : Marked → (Flow → MarkedPlan) → MarkedPlan
  -- the same of a loop with reduction variables
  Reduce : Reduced → (Flow → MarkedPlan) → MarkedPlan

-- without its marks
abbrev pub plain : MarkedPlan → Plan
plain (Ends f) = plan.Ends f
plain (Breaks b) = plan.Breaks b
plain (Look u k) = plan.Look u (λ c. plain (k c))
plain (Set u c t) = plan.Set u c (plain t)
plain (Hold u c t) = plan.Hold u c (plain t)
plain (Forget u t) = plan.Forget u (plain t)
plain (Show xs t) = plan.Show xs (plain t)
plain (Take k) = plan.Take (λ o. plain (k o))
plain (Within p at t k) = plan.Within p at (plain t) (λ f. plain (k f))
plain (Loop m k) = plan.Set m.index (content Int m.first) (loop_plan m ▹ λ f. plain (k f))
plain (Reduce d k) = plan.Set d.loop.index (content Int d.loop.first) (loop_plan d.loop ▹ λ f. plain (k f))

-- how a run by a schedule came out; a schedule gives each loop that is met its picks, and may be too short
pub data Outcome : Type 0 where
  Ended : Flow → Outcome
  Broken : Break → Outcome
  -- an iteration of a marked loop faults
  Faulted : Outcome
  OutOfPicks : Outcome

pub record Parallel : Type 0 where
  pub outcome : Outcome
  pub store : Store
  pub printed : List (List Shown)
  -- the marked loops that were run, in order
  pub loops : List Marked
  -- what is left of the schedule and of the input
  pub schedule : List (List ℕ)
  pub input : List Content

abbrev pub first_picks : List (List ℕ) → List ℕ
first_picks [] = []
first_picks (l ∷ ls) = l

abbrev pub other_picks : List (List ℕ) → List (List ℕ)
other_picks [] = []
other_picks (l ∷ ls) = ls

abbrev pub printing : List Shown → Parallel → Parallel
printing xs r = record { outcome = r.outcome; store = r.store; printed = xs ∷ r.printed; loops = r.loops; schedule = r.schedule; input = r.input }

abbrev pub behind : Marked → Parallel → Parallel
behind m r = record { outcome = r.outcome; store = r.store; printed = r.printed; loops = m ∷ r.loops; schedule = r.schedule; input = r.input }

-- goes on where all iterations have finished
abbrev pub when_done : together.Outcome → List (List ℕ) → List Content → Store → Parallel → Parallel
when_done together.AllFinished ls i s next = next
when_done together.OneFaults ls i s next = record { outcome = Faulted; store = s; printed = []; loops = []; schedule = ls; input = i }
when_done together.OutOfPicks ls i s next = record { outcome = OutOfPicks; store = s; printed = []; loops = []; schedule = ls; input = i }

-- goes on where all copies are combined; a variable without a value that is to be combined is a fault, as a read of it (ANSI X3.9-1978 §17.2)
abbrev pub when_combined : Combination → List (List ℕ) → List Content → (Store → Parallel) → Parallel
when_combined (AllCombined y) ls i next = next y
when_combined (CopiesLeft y) ls i next = record { outcome = OutOfPicks; store = y; printed = []; loops = []; schedule = ls; input = i }
when_combined (NoValue y) ls i next = record { outcome = Broken (Faulty Unset); store = y; printed = []; loops = []; schedule = ls; input = i }

-- goes on where a part has ended
abbrev pub then_parallel : Outcome → Parallel → (Flow → Store → List (List ℕ) → List Content → Parallel) → Parallel
then_parallel (Ended f) q next =
    let r = next f q.store q.schedule q.input in
    record { outcome = r.outcome; store = r.store; printed = q.printed ++ r.printed; loops = q.loops ++ r.loops; schedule = r.schedule; input = r.input }
then_parallel (Broken b) q next = q
then_parallel Faulted q next = q
then_parallel OutOfPicks q next = q

-- the run by a schedule: a marked loop's iterations are interleaved by its picks, and where all have finished its variable, and what they wrote of the names of the directive, is undefined; where one
-- of them faults the run ends with that; the copies of a loop with reduction variables are combined by the picks that are left then
abbrev pub parallel_run : MarkedPlan → Store → List (List ℕ) → List Content → Parallel
parallel_run (Ends f) z ls i = record { outcome = Ended f; store = z; printed = []; loops = []; schedule = ls; input = i }
parallel_run (Breaks b) z ls i = record { outcome = Broken b; store = z; printed = []; loops = []; schedule = ls; input = i }
parallel_run (Look u k) z ls i = parallel_run (k (z u)) z ls i
parallel_run (Set u c t) z ls i = parallel_run t (put z u c) ls i
parallel_run (Hold u c t) z ls i = parallel_run t (put z u c) ls i
parallel_run (Forget u t) z ls i = parallel_run t (put z u (undefined (z u))) ls i
parallel_run (Show xs t) z ls i = printing xs (parallel_run t z ls i)
parallel_run (Take k) z ls i = parallel_run (k (first_of i)) z ls (rest_of i)
parallel_run (Within p at t k) z ls i = let r = parallel_run t z ls i in then_parallel r.outcome r (λ f y ms rest. parallel_run (k f) y ms rest)
parallel_run (Loop m k) z ls i =
    let w = interleaved (process m) m.count (first_picks ls) (start z) in
    when_done (together.outcome (process m) w m.count) (other_picks ls) i w.store (behind m (parallel_run (k Normal) (store_after m w) (other_picks ls) i))
parallel_run (Reduce d k) z ls i =
    let w = interleaved (reduced_process d) d.loop.count (first_picks ls) (start z) in
    when_done (together.outcome (reduced_process d) w d.loop.count) (other_picks ls) i w.store
    (when_combined (combined (picks_left (reduced_process d) d.loop.count (first_picks ls) (start z)) w.store (copies d w d.loop.count)) (other_picks ls) i
    (λ y. behind d.loop (parallel_run (k Normal) (reduced_after d w y) (other_picks ls) i)))

-- the plain run
abbrev pub plain_run : MarkedPlan → Store → List Content → Ran Flow
plain_run t s i = run_of (plain t) s i
