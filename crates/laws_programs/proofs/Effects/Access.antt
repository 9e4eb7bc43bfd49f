-- What statements do, as far as effects know it, and what each set of accesses leaves open.
use Rattle.std.proofs.Common.{ℕ, ◌⊎◌, inl, inr}
use Rattle.f77_ast.specs.Steps.{Spot}
use Rattle.f77_ast.specs.Plans.{Flow, Normal, Jump, Returned, Stopped}

pub data Access : Type 0 where
  Reading : (unit : ℕ) → Access
  Writing : (unit : ℕ) → Access
  -- input is taken, or output written
  Talking : Access
  -- STOP ends the run
  Stopping : Access

-- a set of accesses
abbrev pub Allowed : Type 1
Allowed = Access → Type 0

abbrev pub Sub : Allowed → Allowed → Type 0
Sub A B = (x : Access) → A x → B x

-- an end by STOP is one of them
abbrev pub EndsIn : Allowed → Flow → Type 0
EndsIn A Normal = Unit {0}
EndsIn A (Jump l) = Unit {0}
EndsIn A Returned = Unit {0}
EndsIn A Stopped = A Stopping

-- units that pass away with the activations of modules, by where these are entered
abbrev pub Passing : Type 1
Passing = Spot → ℕ → Type 0

-- below an arrival also the accesses of the units that it brings
abbrev pub Under : Passing → Spot → Allowed → Access → Type 0
Under L p A (Reading u) = A (Reading u) ⊎ L p u
Under L p A (Writing u) = A (Writing u) ⊎ L p u
Under L p A Talking = A Talking
Under L p A Stopping = A Stopping

pub into_under : (L : Passing) (p : Spot) (A : Allowed) → Sub A (Under L p A)
into_under L p A (Reading u) h = inl h
into_under L p A (Writing u) h = inl h
into_under L p A Talking h = h
into_under L p A Stopping h = h

pub under_more : (L : Passing) (p : Spot) (A B : Allowed) → Sub A B → Sub (Under L p A) (Under L p B)
under_more L p A B s (Reading u) (inl h) = inl (s (Reading u) h)
under_more L p A B s (Reading u) (inr h) = inr h
under_more L p A B s (Writing u) (inl h) = inl (s (Writing u) h)
under_more L p A B s (Writing u) (inr h) = inr h
under_more L p A B s Talking h = s Talking h
under_more L p A B s Stopping h = s Stopping h

pub ends_more : (A B : Allowed) → Sub A B → (f : Flow) → EndsIn A f → EndsIn B f
ends_more A B s Normal h = tt
ends_more A B s (Jump l) h = tt
ends_more A B s Returned h = tt
ends_more A B s Stopped h = s Stopping h

pub ends_under : (L : Passing) (p : Spot) (A : Allowed) (f : Flow) → EndsIn (Under L p A) f → EndsIn A f
ends_under L p A Normal h = tt
ends_under L p A (Jump l) h = tt
ends_under L p A Returned h = tt
ends_under L p A Stopped h = h
