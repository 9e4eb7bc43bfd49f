-- Computations that read no unit without a value but to fault, and that change only some units without an event.
use Rattle.std.specs.Prelude.{◌≡◌, ℕ, Option, Bool, true}
use Rattle.f77_ast.specs.Store.{Undefined, Content}
use Rattle.f77_ast.specs.Steps.{Faulty, Wants, OutOfTurns, Steps, Done, Breaks, Look, Set, Hold, Forget, Show, Take, Arrive}
use Rattle.f77_ast.specs.Plans.{Flow, steps_of}
use Rattle.laws_interleavings.specs.Marks.{MarkedPlan, Loop, Reduce, Within}
use Rattle.laws_interleavings.specs.Marks as marks
use Rattle.laws_interleavings.specs.Faults.{StepsFault}

-- a read of a unit without a value is a fault (ANSI X3.9-1978 §17.2)
abbrev pub Strict : {A : Type 0} → Steps A → Type 0
Strict (Done a) = Unit {0}
Strict (Breaks b) = Unit {0}
Strict (Look u k) = ((c : Content) → c.tag ≡ Undefined → StepsFault (k c)) × ((c : Content) → Strict (k c))
Strict (Set u c t) = Strict t
Strict (Hold u c t) = Strict t
Strict (Forget u t) = Strict t
Strict (Show xs t) = Strict t
Strict (Take k) = (o : Option Content) → Strict (k o)
Strict (Arrive p t) = Strict t

-- only these units change without an event
abbrev pub Quiet : {A : Type 0} → (ℕ → Bool) → Steps A → Type 0
Quiet p (Done a) = Unit {0}
Quiet p (Breaks b) = Unit {0}
Quiet p (Look u k) = (c : Content) → Quiet p (k c)
Quiet p (Set u c t) = Quiet p t
Quiet p (Hold u c t) = (p u ≡ true) × Quiet p t
Quiet p (Forget u t) = (p u ≡ true) × Quiet p t
Quiet p (Show xs t) = Quiet p t
Quiet p (Take k) = (o : Option Content) → Quiet p (k o)
Quiet p (Arrive a t) = Quiet p t

-- the same of plans with marked loops
abbrev pub IsFaultPlan : MarkedPlan → Type 0
IsFaultPlan (marks.Ends f) = ⊥
IsFaultPlan (marks.Breaks (Faulty f)) = Unit {0}
IsFaultPlan (marks.Breaks (Wants u)) = ⊥
IsFaultPlan (marks.Breaks OutOfTurns) = ⊥
IsFaultPlan (marks.Look u k) = ⊥
IsFaultPlan (marks.Set u c t) = ⊥
IsFaultPlan (marks.Hold u c t) = ⊥
IsFaultPlan (marks.Forget u t) = ⊥
IsFaultPlan (marks.Show xs t) = ⊥
IsFaultPlan (marks.Take k) = ⊥
IsFaultPlan (Within p at t k) = ⊥
IsFaultPlan (Loop m k) = ⊥
IsFaultPlan (Reduce d k) = ⊥

abbrev pub StrictPlan : MarkedPlan → Type 0
StrictPlan (marks.Ends f) = Unit {0}
StrictPlan (marks.Breaks b) = Unit {0}
StrictPlan (marks.Look u k) = ((c : Content) → c.tag ≡ Undefined → IsFaultPlan (k c)) × ((c : Content) → StrictPlan (k c))
StrictPlan (marks.Set u c t) = StrictPlan t
StrictPlan (marks.Hold u c t) = StrictPlan t
StrictPlan (marks.Forget u t) = StrictPlan t
StrictPlan (marks.Show xs t) = StrictPlan t
StrictPlan (marks.Take k) = (o : Option Content) → StrictPlan (k o)
StrictPlan (Within p at t k) = StrictPlan t × ((f : Flow) → StrictPlan (k f))
StrictPlan (Loop m k) = Strict (steps_of m.body) × ((f : Flow) → StrictPlan (k f))
StrictPlan (Reduce d k) = Strict (steps_of d.loop.body) × ((f : Flow) → StrictPlan (k f))
