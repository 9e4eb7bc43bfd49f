-- What statements do, with each execution of a statement as a part of its own.
use Rattle.std.specs.Prelude.{ℕ, List, Option}
use Rattle.f77_ast.specs.Store.{Content}
use Rattle.f77_ast.specs.Steps.{Spot, Shown, Break, Steps, ◌>>=◌}
use Rattle.f77_ast.specs.Steps as steps
use Rattle.f77_ast.specs.Places.{Places}

-- how a statement ends, where it comes to an end
pub data Flow : Type 0 where
  Normal : Flow
  -- by a GO TO
  Jump : (label : ℕ) → Flow
  Returned : Flow
  Stopped : Flow

pub data Plan : Type 0 where
  Ends : Flow → Plan
  Breaks : Break → Plan
  Look : (unit : ℕ) → (Content → Plan) → Plan
  Set : (unit : ℕ) → Content → Plan → Plan
  Hold : (unit : ℕ) → Content → Plan → Plan
  Forget : (unit : ℕ) → Plan → Plan
  Show : List Shown → Plan → Plan
  Take : (Option Content → Plan) → Plan
  -- an execution at a spot, with the places of the module's variables, and what comes after it
  Within : Spot → Places → Plan → (Flow → Plan) → Plan

-- one plan after the other
infixl 20 ◌▹◌
abbrev pub ◌▹◌ : Plan → (Flow → Plan) → Plan
Ends g ▹ f = f g
Breaks b ▹ f = Breaks b
Look u k ▹ f = Look u (λ c. k c ▹ f)
Set u c t ▹ f = Set u c (t ▹ f)
Hold u c t ▹ f = Hold u c (t ▹ f)
Forget u t ▹ f = Forget u (t ▹ f)
Show xs t ▹ f = Show xs (t ▹ f)
Take k ▹ f = Take (λ o. k o ▹ f)
Within p at t k ▹ f = Within p at t (λ g. k g ▹ f)

-- the steps of an expression, or of a simple statement, and then a plan; they arrive nowhere
abbrev pub first : {A : Type 0} → Steps A → (A → Plan) → Plan
first (steps.Done a) f = f a
first (steps.Breaks b) f = Breaks b
first (steps.Look u k) f = Look u (λ c. first (k c) f)
first (steps.Set u c t) f = Set u c (first t f)
first (steps.Hold u c t) f = Hold u c (first t f)
first (steps.Forget u t) f = Forget u (first t f)
first (steps.Show xs t) f = Show xs (first t f)
first (steps.Take k) f = Take (λ o. first (k o) f)
first (steps.Arrive p t) f = first t f

abbrev pub on_normal : Flow → Plan → Plan
on_normal Normal t = t
on_normal (Jump l) t = Ends (Jump l)
on_normal Returned t = Ends Returned
on_normal Stopped t = Ends Stopped

-- all its steps, of which an execution's first is to arrive
abbrev pub steps_of : Plan → Steps Flow
steps_of (Ends f) = steps.Done f
steps_of (Breaks b) = steps.Breaks b
steps_of (Look u k) = steps.Look u (λ c. steps_of (k c))
steps_of (Set u c t) = steps.Set u c (steps_of t)
steps_of (Hold u c t) = steps.Hold u c (steps_of t)
steps_of (Forget u t) = steps.Forget u (steps_of t)
steps_of (Show xs t) = steps.Show xs (steps_of t)
steps_of (Take k) = steps.Take (λ o. steps_of (k o))
steps_of (Within p at t k) = steps.Arrive p (steps_of t >>= λ f. steps_of (k f))
