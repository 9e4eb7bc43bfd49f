-- Runs: what a computation does on a memory and an input.
use Rattle.std.specs.Prelude.{ℕ, List, [], ◌∷◌, Option, Some, None, Bool, if◌then◌else◌}
use Rattle.f77_ast.specs.Store.{Content, Store, put, undefined}
use Rattle.f77_ast.specs.Steps.{Spot, Shown, Break, Wants, Steps, Done, Breaks, Look, Set, Hold, Forget, Show, Take, Arrive}

-- a store; or a script: contents of private units, and answers for the reads of all others
pub data Memory : Type 0 where
  Whole : Store → Memory
  Script : (private : ℕ → Bool) → Store → (answers : List Content) → Memory

pub data Event : Type 0 where
  Arrived : Spot → Event
  Read : (unit : ℕ) → Content → Event
  Wrote : (unit : ℕ) → Content → Event
  Printed : List Shown → Event
  Took : Option Content → Event

pub data Answer (A : Type 0) : Type 0 where
  Gave : A → Answer A
  Broke : Break → Answer A

-- how a run ended, its memory then, the rest of the input, and what it did, the first first
pub record Ran (A : Type 0) : Type 0 where
  pub answer : Answer A
  pub memory : Memory
  pub input : List Content
  pub trace : List Event

abbrev pub ended : {A : Type 0} → Answer A → Memory → List Content → Ran A
ended a m i = record { answer = a; memory = m; input = i; trace = [] }

abbrev pub after_event : {A : Type 0} → Event → Ran A → Ran A
after_event e r = record { answer = r.answer; memory = r.memory; input = r.input; trace = e ∷ r.trace }

-- a write changes a script's private units alone
abbrev pub set_in : Memory → ℕ → Content → Memory
set_in (Whole s) u c = Whole (put s u c)
set_in (Script p s xs) u c = Script p (if p u then put s u c else s) xs

abbrev pub forget_in : Memory → ℕ → Memory
forget_in (Whole s) u = Whole (put s u (undefined (s u)))
forget_in (Script p s xs) u = Script p (if p u then put s u (undefined (s u)) else s) xs

abbrev pub answer_from : (ℕ → Bool) → Store → List Content → Option (Content × Memory)
answer_from p s [] = None
answer_from p s (c ∷ xs) = Some (c, Script p s xs)

-- what a read of the unit gives; none where a script has no answer left
abbrev pub look_in : Memory → ℕ → Option (Content × Memory)
look_in (Whole s) u = Some (s u, Whole s)
look_in (Script p s xs) u = if p u then Some (s u, Script p s xs) else answer_from p s xs

abbrev pub on_look : {A : Type 0} → Option (Content × Memory) → ℕ → Memory → List Content → (Content → Memory → Ran A) → Ran A
on_look None u m i go = ended (Broke (Wants u)) m i
on_look (Some q) u m i go = after_event (Read u q.0) (go q.0 q.1)

abbrev pub first_of : List Content → Option Content
first_of [] = None
first_of (x ∷ xs) = Some x

abbrev pub rest_of : List Content → List Content
rest_of [] = []
rest_of (x ∷ xs) = xs

abbrev pub run : {A : Type 0} → Steps A → Memory → List Content → Ran A
run (Done a) m i = ended (Gave a) m i
run (Breaks b) m i = ended (Broke b) m i
run (Look u k) m i = on_look (look_in m u) u m i (λ c n. run (k c) n i)
run (Set u c t) m i = after_event (Wrote u c) (run t (set_in m u c) i)
run (Hold u c t) m i = run t (set_in m u c) i
run (Forget u t) m i = run t (forget_in m u) i
run (Show xs t) m i = after_event (Printed xs) (run t m i)
run (Take k) m i = after_event (Took (first_of i)) (run (k (first_of i)) m (rest_of i))
run (Arrive p t) m i = after_event (Arrived p) (run t m i)

-- the store of a memory; of a script that of its private units
abbrev pub store_of : Memory → Store
store_of (Whole s) = s
store_of (Script p s xs) = s
