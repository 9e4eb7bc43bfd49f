-- Processes that share a store, interleaved by single accesses in any order. Nothing here knows a statement.
use Rattle.std.specs.Prelude.{ℕ, zero, suc, ◌%◌, List, [], ◌∷◌, ◌++◌, length, Option, Some, None, Bool, true, false, ◌||◌, if◌then◌else◌, slice_get}
use Rattle.f77_ast.specs.Store.{Content, Store, put}
use Rattle.f77_ast.specs.Runs.{Event, Read, Wrote}

-- what a process does next with a unit that it shares; or it has finished, or it faults
pub data Action : Type 0 where
  ReadNext : (unit : ℕ) → Action
  WriteNext : (unit : ℕ) → Content → Action
  Finished : Action
  Faults : Action

-- its next action, by the reads and writes that it has done, the first first
abbrev pub Process : Type 0
Process = List Event → Action

-- the shared store, and what each process has done, by its number from 0
pub record World : Type 0 where
  pub store : Store
  pub did : ℕ → List Event

abbrev pub start : Store → World
start s = record { store = s; did = λ i. [] }

-- process number i acts
abbrev pub act : Action → ℕ → World → World
act (ReadNext u) i w = record { store = w.store; did = put w.did i (w.did i ++ Read u (w.store u) ∷ []) }
act (WriteNext u c) i w = record { store = put w.store u c; did = put w.did i (w.did i ++ Wrote u c ∷ []) }
act Finished i w = w
act Faults i w = w

abbrev pub is_finished : Action → Bool
is_finished (ReadNext u) = false
is_finished (WriteNext u c) = false
is_finished Finished = true
is_finished Faults = false

abbrev pub is_fault : Action → Bool
is_fault (ReadNext u) = false
is_fault (WriteNext u c) = false
is_fault Finished = false
is_fault Faults = true

-- the numbers of those of n processes that have not finished, in order
abbrev pub unfinished : (ℕ → Process) → World → ℕ → List ℕ
unfinished p w zero = []
unfinished p w (suc n) = unfinished p w n ++ (if is_finished (p n (w.did n)) then [] else n ∷ [])

-- the one that a pick means: their count goes round
abbrev pub picked : List ℕ → ℕ → Option ℕ
picked [] k = None
picked (i ∷ is) k = slice_get (i ∷ is) (k % length (i ∷ is))

abbrev pub act_by : (ℕ → Process) → World → Option ℕ → World
act_by p w None = w
act_by p w (Some i) = act (p i (w.did i)) i w

-- n processes, one action for each pick
abbrev pub interleaved : (ℕ → Process) → ℕ → List ℕ → World → World
interleaved p n [] w = w
interleaved p n (k ∷ ks) w = interleaved p n ks (act_by p w (picked (unfinished p w n) k))

-- how n processes came out
pub data Outcome : Type 0 where
  AllFinished : Outcome
  OneFaults : Outcome
  OutOfPicks : Outcome

abbrev pub any_fault : (ℕ → Process) → World → ℕ → Bool
any_fault p w zero = false
any_fault p w (suc n) = any_fault p w n || is_fault (p n (w.did n))

abbrev pub when_left : Bool → List ℕ → Outcome
when_left true is = OneFaults
when_left false [] = AllFinished
when_left false (i ∷ is) = OutOfPicks

abbrev pub outcome : (ℕ → Process) → World → ℕ → Outcome
outcome p w n = when_left (any_fault p w n) (unfinished p w n)
