-- The rest of a run, as a plan that follows; and plans in which a unit without a value is not read.
use Rattle.std.specs.Prelude.{◌≡◌, ℕ, Bool, false, Option}
use Rattle.f77_ast.specs.Store.{Undefined, Content}
use Rattle.f77_ast.specs.Steps.{Steps}
use Rattle.f77_ast.specs.Steps as steps
use Rattle.f77_ast.specs.Plans.{Flow, Stopped, Plan, Ends, Breaks, Look, Set, Hold, Forget, Show, Take, Within}
use Rattle.f77_ast.specs.Executions.{run_of}
use Rattle.f77_meaning.specs.Occurrences.{Onward}
use Rattle.laws_interleavings.specs.Faults.{IsFault, StepsFault}

-- what a run does that goes on with this plan, by how it came there
abbrev pub onward_by : (Flow → Plan) → Onward
onward_by k f z j = (run_of (k f) z j).trace

-- a look at a unit without a value is followed by a fault (ANSI X3.9-1978 §17.2), and none of these units gets a value without an event
abbrev pub IsStrict : (ℕ → Bool) → Plan → Type 0
IsStrict lost (Ends f) = Unit {0}
IsStrict lost (Breaks b) = Unit {0}
IsStrict lost (Look u k) = ((c : Content) → IsStrict lost (k c)) × ((c : Content) → c.tag ≡ Undefined → IsFault (k c))
IsStrict lost (Set u c t) = IsStrict lost t
IsStrict lost (Hold u c t) = (lost u ≡ false) × IsStrict lost t
IsStrict lost (Forget u t) = IsStrict lost t
IsStrict lost (Show xs t) = IsStrict lost t
IsStrict lost (Take k) = (o : Option Content) → IsStrict lost (k o)
IsStrict lost (Within p at t k) = IsStrict lost t × ((f : Flow) → IsStrict lost (k f))

-- the same of computations
abbrev pub AreStrict : {A : Type 0} → (ℕ → Bool) → Steps A → Type 0
AreStrict lost (steps.Done a) = Unit {0}
AreStrict lost (steps.Breaks b) = Unit {0}
AreStrict lost (steps.Look u k) = ((c : Content) → AreStrict lost (k c)) × ((c : Content) → c.tag ≡ Undefined → StepsFault (k c))
AreStrict lost (steps.Set u c t) = AreStrict lost t
AreStrict lost (steps.Hold u c t) = (lost u ≡ false) × AreStrict lost t
AreStrict lost (steps.Forget u t) = AreStrict lost t
AreStrict lost (steps.Show xs t) = AreStrict lost t
AreStrict lost (steps.Take k) = (o : Option Content) → AreStrict lost (k o)
AreStrict lost (steps.Arrive p t) = AreStrict lost t

-- what follows: no unit without a value is read in it, and nothing follows a STOP (§11.12)
pub record Follows (lost : ℕ → Bool) (k : Flow → Plan) : Type 0 where
  pub strict : (f : Flow) → IsStrict lost (k f)
  pub stopped : k Stopped ≡ Ends Stopped
