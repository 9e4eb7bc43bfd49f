-- The iterations of a marked loop as processes that share the units of the program, each with units of its own (private copies).
use Rattle.std.specs.Prelude.{ℕ, zero, suc, List, [], ◌∷◌, length, Option, Some, None, Bool, false, ◌||◌, ◌&&◌, if◌then◌else◌, nat_eq, slice_get, ℤ, ◌+ℤ◌}
use Rattle.f77_ast.specs.Store.{Int, Content, Store, content, put, undefined, empty_store}
use Rattle.f77_ast.specs.Steps.{Faulty, Wants, OutOfTurns}
use Rattle.f77_ast.specs.Runs.{Event, Arrived, Read, Wrote, Printed, Took, Answer, Gave, Broke, Ran, Script, run}
use Rattle.f77_ast.specs.Plans.{Flow, Normal, Jump, Returned, Stopped, Plan, steps_of}
use Rattle.f77_meaning.specs.Interleavings.{Action, ReadNext, WriteNext, Finished, Faults, Process, World}

-- a marked loop that has evaluated its expressions: the plan of its body, with the loop's variable locked; the unit of that variable, its first number
-- and its step; how many iterations there are; which units each iteration has for itself, and which of these belong to names of the directive
pub record Marked : Type 0 where
  pub body : Plan
  pub index : ℕ
  pub first : ℤ
  pub step : ℤ
  pub count : ℕ
  pub private : ℕ → Bool
  pub named : ℕ → Bool

-- the number of the loop's variable in an iteration, from 0
abbrev pub number_in : ℤ → ℤ → ℕ → ℤ
number_in first step zero = first
number_in first step (suc i) = number_in first step i +ℤ step

-- an iteration begins with its private units undefined, but for the loop's variable
abbrev pub own_store : Marked → ℕ → Store
own_store m i = put empty_store m.index (content Int (number_in m.first m.step i))

-- the reads and writes of units that are not private
abbrev pub shared : (ℕ → Bool) → List Event → List Event
shared private [] = []
shared private (Arrived p ∷ es) = shared private es
shared private (Read u c ∷ es) = if private u then shared private es else Read u c ∷ shared private es
shared private (Wrote u c ∷ es) = if private u then shared private es else Wrote u c ∷ shared private es
shared private (Printed xs ∷ es) = shared private es
shared private (Took o ∷ es) = shared private es

-- what the reads among them gave
abbrev pub answers : List Event → List Content
answers [] = []
answers (Arrived p ∷ es) = answers es
answers (Read u c ∷ es) = c ∷ answers es
answers (Wrote u c ∷ es) = answers es
answers (Printed xs ∷ es) = answers es
answers (Took o ∷ es) = answers es

abbrev pub action_of : Event → Action
action_of (Arrived p) = Faults
action_of (Read u c) = ReadNext u
action_of (Wrote u c) = WriteNext u c
action_of (Printed xs) = Faults
action_of (Took o) = Faults

-- an iteration that has done all its accesses reads a unit for which it has no answer yet, or has ended normally; any other end is a fault
abbrev pub action_at_end : Answer Flow → Action
action_at_end (Gave Normal) = Finished
action_at_end (Gave (Jump l)) = Faults
action_at_end (Gave Returned) = Faults
action_at_end (Gave Stopped) = Faults
action_at_end (Broke (Faulty f)) = Faults
action_at_end (Broke (Wants u)) = ReadNext u
action_at_end (Broke OutOfTurns) = Faults

abbrev pub action_after : Option Event → Answer Flow → Action
action_after (Some e) a = action_of e
action_after None a = action_at_end a

-- the body on the iteration's own store and the answers that its reads of shared units were given, without input
abbrev pub iteration : Marked → ℕ → List Event → Ran Flow
iteration m i did = run (steps_of m.body) (Script m.private (own_store m i) (answers did)) []

-- its next action: the access after those that it has done
abbrev pub process : Marked → ℕ → Process
process m i did = let r = iteration m i did in action_after (slice_get (shared m.private r.trace) (length did)) r.answer

abbrev pub writes : ℕ → List Event → Bool
writes u [] = false
writes u (Arrived p ∷ es) = writes u es
writes u (Read x c ∷ es) = writes u es
writes u (Wrote x c ∷ es) = nat_eq u x || writes u es
writes u (Printed xs ∷ es) = writes u es
writes u (Took o ∷ es) = writes u es

-- whether some of the first n iterations wrote its copy of a unit
abbrev pub some_writes : Marked → World → ℕ → ℕ → Bool
some_writes m w u zero = false
some_writes m w u (suc n) = some_writes m w u n || writes u (iteration m n (w.did n)).trace

-- the units that are undefined after the loop: its variable, and each unit of a name of the directive that some iteration wrote
abbrev pub is_lost : Marked → World → ℕ → Bool
is_lost m w u = nat_eq u m.index || (m.named u && some_writes m w u m.count)

-- the store after the loop, when all its iterations have finished
abbrev pub store_after : Marked → World → Store
store_after m w u = if is_lost m w u then undefined (w.store u) else w.store u
