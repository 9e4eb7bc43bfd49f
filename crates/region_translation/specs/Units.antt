-- Units of a block, by the elements of its variables (ANSI X3.9-1978 §5.2.4, §8.3).
use Rattle.std.specs.Prelude.{ℕ, suc, ◌+◌, min, max, Bool, true, nat_le, nat_lt, bytes_eq, if◌then◌else◌, List, [], ◌∷◌, Option, Some, pos}
use Rattle.affine_systems.specs.declared.row.Var.{Var}
use Rattle.affine_systems.specs.declared.row.Var.TheVariants.{Phi, Aux}
use Rattle.f77_ast.specs.declared.constant.Constant.{Constant}
use Rattle.f77_ast.specs.Constants.{const_value}
use Rattle.f77_ast.specs.Symbols.{BoundTree, SymbolTree, value_in}
use Rattle.f77_ast.specs.Units.{units_in}
use Rattle.call_graph.specs.declared.graph.Block.{Block}
use Rattle.affine_forms.specs.declared.affine.Affine.{Affine}
use Rattle.affine_forms.specs.Forms.{affine, limited, sum_of}
use Rattle.call_equations.specs.Rows.{constant_form}
use Rattle.call_equations.specs.Forms.{zero, offset}
use Rattle.call_equations.specs.Positions.{size_of, before_dimensions}
use Rattle.region_translation.specs.declared.units.Units.{Units}

-- the k-th subscript, of the caller's variable or of the callee's
abbrev pub subscript : Bool → ℕ → Var
subscript of_caller k = if of_caller then Aux k else Phi k

-- the place of the element with the subscripts from the k-th on in its array, from 0 for the first
abbrev pub element_place : (List ℕ → Option Constant) → Bool → ℕ → List BoundTree → Option Affine
element_place value of_caller k [] = Some zero
element_place value of_caller k (b ∷ bs) = before_dimensions (offset (subscript of_caller k) (constant_form (const_value value b.low))) (size_of value b) bs (element_place value of_caller (suc k) bs)

-- the unit of the block that it is, from 1, where o units come before the variable
abbrev pub unit_place : (List ℕ → Option Constant) → Bool → ℕ → List BoundTree → Option Affine
unit_place value of_caller o bs = sum_of (limited (affine [] (pos (suc o)))) (pos 1) (element_place value of_caller 1 bs)

-- ---- some units of a block: a first one, from 0, and how many

abbrev pub end_of : Units → ℕ
end_of u = u.first + u.count

abbrev pub meet : Units → Units → Bool
meet u v = nat_lt (max u.first v.first) (min (end_of u) (end_of v))

abbrev pub units_of : List SymbolTree → ℕ → SymbolTree → Units
units_of ss o s = record { first = o; count = units_in ss s }

-- where the units before a place are covered: the end of those that begin at it or before, the farthest of all
abbrev pub reach_by : Units → ℕ → ℕ
reach_by u at = if nat_le u.first at then max at (end_of u) else at

abbrev pub reach : List Units → ℕ → ℕ
reach [] at = at
reach (u ∷ us) at = reach us (reach_by u at)

-- once for each of them: each time one more is in line
abbrev pub reach_each : List Units → List Units → ℕ → ℕ
reach_each [] us at = at
reach_each (v ∷ vs) us at = reach_each vs us (reach us at)

-- each of the units is one of some of these
abbrev pub are_covered : Units → List Units → Bool
are_covered u us = nat_le (end_of u) (reach_each us us u.first)

-- the units of a block of a program; 0 where it has none of that name
abbrev pub size_in : List Block → List ℕ → ℕ
size_in [] x = 0
size_in (b ∷ bs) x = if bytes_eq b.name x then b.size else size_in bs x
