-- How many units variables take: an INTEGER or LOGICAL one each (ANSI X3.9-1978 §17.1.1), and arrays one for each element.
use Rattle.std.specs.Prelude.{ℕ, ◌*◌, ◌^◌, nat_lt, ℤ, pos, ◌+ℤ◌, ◌-ℤ◌, List, [], ◌∷◌, Option, Some, None, if◌then◌else◌}
use Rattle.f77_ast.specs.Trees.{ExprTree}
use Rattle.f77_ast.specs.Places.{as_count}
use Rattle.f77_ast.specs.declared.constant.Constant.{Constant}
use Rattle.f77_ast.specs.declared.constant.Constant.TheVariants.{Int, Log}
use Rattle.f77_ast.specs.declared.constant.ConstantValue.{ConstantValue}
use Rattle.f77_ast.specs.declared.constant.ConstantValue.TheVariants.{Is, Faults, Varies}
use Rattle.f77_ast.specs.Constants.{const_value}
use Rattle.f77_ast.specs.Symbols.{BoundTree, SymbolTree, value_in}

-- the numbers from one bound to the other; none where one of them is no number
abbrev pub to_high : ℤ → ConstantValue → ℕ
to_high low (Is (Int high)) = as_count ((high -ℤ low) +ℤ pos 1)
to_high low (Is (Log b)) = 0
to_high low Faults = 0
to_high low Varies = 0

abbrev pub span_units : ConstantValue → ConstantValue → ℕ
span_units (Is (Int low)) high = to_high low high
span_units (Is (Log b)) high = 0
span_units Faults high = 0
span_units Varies high = 0

abbrev pub span_to : (List ℕ → Option Constant) → ConstantValue → Option ExprTree → ℕ
span_to value low None = 0
span_to value low (Some high) = span_units low (const_value value high)

abbrev pub bound_units : (List ℕ → Option Constant) → BoundTree → ℕ
bound_units value b = span_to value (const_value value b.low) b.high

-- the elements of an array: those of its dimensions multiplied
abbrev pub bounds_units : (List ℕ → Option Constant) → List BoundTree → ℕ
bounds_units value [] = 1
bounds_units value (b ∷ bs) = bound_units value b * bounds_units value bs

-- one for a scalar; none where a bound is not constant
abbrev pub units_in : List SymbolTree → SymbolTree → ℕ
units_in ss s = bounds_units (value_in ss) s.bounds

-- a number, where it has 64 bits
abbrev pub in_64_bits : ℕ → Option ℕ
in_64_bits n = if nat_lt n (2 ^ 64) then Some n else None
