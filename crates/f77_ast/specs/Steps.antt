-- What a computation asks of its memory and of its surroundings, one thing after the other.
use Rattle.std.specs.Prelude.{ℕ, List, Option}
use Rattle.f77_ast.specs.Store.{Content}
use Rattle.f77_ast.specs.Faults.{Fault}

-- where a run arrives: at a statement of a module, by its number, or at the module's entry, number 0
pub record Spot : Type 0 where
  pub module_name : List ℕ
  pub statement : ℕ

-- what is printed: a value, or the text of a character constant
pub data Shown : Type 0 where
  Value : Content → Shown
  Text : List ℕ → Shown

-- why a computation ends before its time
pub data Break : Type 0 where
  Faulty : Fault → Break
  -- a script has no answer left for a read of the unit
  Wants : (unit : ℕ) → Break
  -- a list has jumped more often than it may
  OutOfTurns : Break

pub data Steps (A : Type 0) : Type 0 where
  Done : A → Steps A
  Breaks : Break → Steps A
  Look : (unit : ℕ) → (Content → Steps A) → Steps A
  Set : (unit : ℕ) → Content → Steps A → Steps A
  -- without an event: the unit is given contents, or becomes undefined
  Hold : (unit : ℕ) → Content → Steps A → Steps A
  Forget : (unit : ℕ) → Steps A → Steps A
  Show : List Shown → Steps A → Steps A
  -- the next item of the input, if there is one
  Take : (Option Content → Steps A) → Steps A
  Arrive : Spot → Steps A → Steps A

-- one computation after the other
infixl 20 ◌>>=◌
abbrev pub ◌>>=◌ : {A B : Type 0} → Steps A → (A → Steps B) → Steps B
Done a >>= f = f a
Breaks b >>= f = Breaks b
Look u k >>= f = Look u (λ c. k c >>= f)
Set u c t >>= f = Set u c (t >>= f)
Hold u c t >>= f = Hold u c (t >>= f)
Forget u t >>= f = Forget u (t >>= f)
Show xs t >>= f = Show xs (t >>= f)
Take k >>= f = Take (λ o. k o >>= f)
Arrive p t >>= f = Arrive p (t >>= f)
