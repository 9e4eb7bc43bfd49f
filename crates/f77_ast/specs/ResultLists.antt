-- Results at statements, found by the numbers of these.
use Rattle.std.specs.Prelude.{ℕ, nat_eq, List, [], ◌∷◌, Option, Some, None, if◌then◌else◌}
use Rattle.f77_ast.specs.Shared.{numbered}
use Rattle.f77_ast.specs.declared.results.At.{At}

abbrev pub first_at : {T : Type 0} → ℕ → List (At T) → Option T
first_at n [] = None
first_at n (a ∷ as') = if nat_eq a.id n then Some a.value else first_at n as'

abbrev pub or_first : {T : Type 0} → Option (At T) → ℕ → List (At T) → Option T
or_first None n as' = first_at n as'
or_first (Some a) n as' = if nat_eq a.id n then Some a.value else first_at n as'

-- the result at the statement of a number: that at its place, where that is its own, or the first with this number
abbrev pub value_at : {T : Type 0} → List (At T) → ℕ → Option T
value_at as' n = or_first (numbered as' n) n as'
