-- Computations and plans that end with a fault at once.
use Rattle.f77_ast.specs.Steps.{Faulty, Wants, OutOfTurns, Steps}
use Rattle.f77_ast.specs.Steps as steps
use Rattle.f77_ast.specs.Plans.{Plan, Ends, Breaks, Look, Set, Hold, Forget, Show, Take, Within}

-- it ends with a fault at once
abbrev pub IsFault : Plan → Type 0
IsFault (Ends f) = ⊥
IsFault (Breaks (Faulty f)) = Unit {0}
IsFault (Breaks (Wants u)) = ⊥
IsFault (Breaks OutOfTurns) = ⊥
IsFault (Look u k) = ⊥
IsFault (Set u c t) = ⊥
IsFault (Hold u c t) = ⊥
IsFault (Forget u t) = ⊥
IsFault (Show xs t) = ⊥
IsFault (Take k) = ⊥
IsFault (Within p at t k) = ⊥

-- the same of computations
abbrev pub StepsFault : {A : Type 0} → Steps A → Type 0
StepsFault (steps.Done a) = ⊥
StepsFault (steps.Breaks (Faulty f)) = Unit {0}
StepsFault (steps.Breaks (Wants u)) = ⊥
StepsFault (steps.Breaks OutOfTurns) = ⊥
StepsFault (steps.Look u k) = ⊥
StepsFault (steps.Set u c t) = ⊥
StepsFault (steps.Hold u c t) = ⊥
StepsFault (steps.Forget u t) = ⊥
StepsFault (steps.Show xs t) = ⊥
StepsFault (steps.Take k) = ⊥
StepsFault (steps.Arrive p t) = ⊥
