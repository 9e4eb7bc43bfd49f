-- Dimensions of which the last one alone may be open.
use Rattle.std.specs.Prelude.{◌≡◌, ℤ, List, [], ◌∷◌, Some}
use Rattle.f77_ast.specs.Places.{Dim}

-- each but the last has an upper bound (ANSI X3.9-1978 §5.1.1.1)
abbrev pub OpenLast : List Dim → Type 0
OpenLast [] = Unit {0}
OpenLast (d ∷ []) = Unit {0}
OpenLast (d ∷ (e ∷ ds)) = ((high : ℤ) × (d.high ≡ Some high)) × OpenLast (e ∷ ds)
