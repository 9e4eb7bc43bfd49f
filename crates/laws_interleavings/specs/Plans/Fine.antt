-- Computations and plans that read no unit without a value but to fault, write no unit that is locked, and change only some units without an event.
use Rattle.std.specs.Prelude.{◌≡◌, ℕ, Bool, true, List, Option, None}
use Rattle.f77_ast.specs.Store.{Undefined, Content}
use Rattle.f77_ast.specs.Steps.{Steps}
use Rattle.f77_ast.specs.Steps as steps
use Rattle.f77_ast.specs.Places.{Place}
use Rattle.f77_ast.specs.Writes.{Locks}
use Rattle.f77_ast.specs.Calls.{Meaning}
use Rattle.f77_ast.specs.Plans.{Flow, Plan, Ends, Breaks, Look, Set, Hold, Forget, Show, Take, Within}
use Rattle.laws_interleavings.specs.Faults.{IsFault, StepsFault}

-- a read of a unit without a value is a fault (ANSI X3.9-1978 §17.2); only these units are written, and only those change without an event
abbrev pub IsFine : (free own : ℕ → Bool) → Plan → Type 0
IsFine free own (Ends f) = Unit {0}
IsFine free own (Breaks b) = Unit {0}
IsFine free own (Look u k) = ((c : Content) → IsFine free own (k c)) × ((c : Content) → c.tag ≡ Undefined → IsFault (k c))
IsFine free own (Set u c t) = (free u ≡ true) × IsFine free own t
IsFine free own (Hold u c t) = (own u ≡ true) × IsFine free own t
IsFine free own (Forget u t) = (own u ≡ true) × IsFine free own t
IsFine free own (Show xs t) = IsFine free own t
IsFine free own (Take k) = (o : Option Content) → IsFine free own (k o)
IsFine free own (Within p at t k) = IsFine free own t × ((f : Flow) → IsFine free own (k f))

abbrev pub AreFine : {A : Type 0} → (free own : ℕ → Bool) → Steps A → Type 0
AreFine free own (steps.Done a) = Unit {0}
AreFine free own (steps.Breaks b) = Unit {0}
AreFine free own (steps.Look u k) = ((c : Content) → AreFine free own (k c)) × ((c : Content) → c.tag ≡ Undefined → StepsFault (k c))
AreFine free own (steps.Set u c t) = (free u ≡ true) × AreFine free own t
AreFine free own (steps.Hold u c t) = (own u ≡ true) × AreFine free own t
AreFine free own (steps.Forget u t) = (own u ≡ true) × AreFine free own t
AreFine free own (steps.Show xs t) = AreFine free own t
AreFine free own (steps.Take k) = (o : Option Content) → AreFine free own (k o)
AreFine free own (steps.Arrive p t) = AreFine free own t

-- what is not locked may be written
abbrev pub Frees : Locks → (ℕ → Bool) → Type 0
Frees locked free = (u : ℕ) → locked u ≡ None → free u ≡ true

abbrev pub MeaningFine : (free own : ℕ → Bool) → Meaning → Type 0
MeaningFine free own m = (ps : List Place) (locked : Locks) → Frees locked free → IsFine free own (m ps locked)
