-- The depth of the grammar is a bound that no text meets.
use Rattle.std.specs.Prelude.{◌≡◌, ℕ, ◌+◌, ◌<◌, length}
use Rattle.f77_exprs.specs.State.{State}
use Rattle.f77_exprs.specs.Grammar.{Part, whole, power, Inner, part, equivalence, factor, variable_in, expression, variable}

-- a depth past the number of characters changes nothing
abbrev pub DepthIsEnough : Type 0
DepthIsEnough = (n m : ℕ) (p : Part) (s : State) → length s.rest < n → length s.rest < m → part n p s ≡ part m p s

-- a part that may be as deep as its text is long
abbrev pub inside : Inner
inside p s = part (length s.rest + 1) p s

-- the equations of the grammar, with no depth in them
pub record IsGrammar : Type 0 where
  pub whole_is : (s : State) → inside whole s ≡ equivalence inside s
  pub power_is : (s : State) → inside power s ≡ factor inside s
  pub expression_is : (s : State) → expression s ≡ inside whole s
  pub variable_is : (s : State) → variable s ≡ variable_in inside s
