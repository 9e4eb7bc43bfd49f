-- Elements of an array and elements of the dummy that is associated with it: dimension by dimension, or by their places in the order of elements
-- (ANSI X3.9-1978 §5.2.4, §15.9.3.3). Phi(k) is a subscript of the caller's array, Aux(k) one of the callee's.
use Rattle.std.specs.Prelude.{ℕ, suc, Bool, true, false, ◌||◌, List, [], ◌∷◌, Option, Some, None, if◌then◌else◌, ℤ, pos, ◌+ℤ◌, ◌-ℤ◌}
use Rattle.affine_systems.specs.declared.row.Var.TheVariants.{Phi, Aux}
use Rattle.affine_systems.specs.declared.row.Row.{Row}
use Rattle.f77_ast.specs.Trees.{ExprTree, ExprTrees}
use Rattle.f77_ast.specs.Trees as tree
use Rattle.f77_ast.specs.declared.constant.Constant.{Constant}
use Rattle.f77_ast.specs.declared.constant.Constant.TheVariants.{Int, Log}
use Rattle.f77_ast.specs.declared.constant.ConstantValue.{ConstantValue}
use Rattle.f77_ast.specs.declared.constant.ConstantValue.TheVariants.{Is, Faults, Varies}
use Rattle.f77_ast.specs.Constants.{const_value}
use Rattle.f77_ast.specs.Symbols.{BoundTree}
use Rattle.affine_forms.specs.declared.affine.Affine.{Affine}
use Rattle.affine_forms.specs.Forms.{affine, affine_of, limited, sum_of}
use Rattle.call_equations.specs.Sides.{SidesTree}
use Rattle.call_equations.specs.Forms.{zero, offset, less, is_zero, equation}
use Rattle.call_equations.specs.Cells.{in_caller, named_form, maybe_form, actual_bound, dummy_bound}

-- ---- dimension by dimension

-- by how much the high bound exceeds the low one
abbrev pub actual_extent : SidesTree → BoundTree → Option Affine
actual_extent c b = less (maybe_form (actual_bound c) b.high) (actual_bound c b.low)

abbrev pub dummy_extent : SidesTree → BoundTree → Option Affine
dummy_extent c b = in_caller c (less (maybe_form (dummy_bound c) b.high) (dummy_bound c b.low))

abbrev pub same_extent : SidesTree → BoundTree → BoundTree → Bool
same_extent c a d = is_zero (less (actual_extent c a) (dummy_extent c d))

-- the two subscripts are equally far from their low bounds
abbrev pub aligned_row : SidesTree → ℕ → ℕ → BoundTree → BoundTree → Option Row
aligned_row c r k a d = equation (offset (Phi k) (actual_bound c a.low)) (offset (Aux k) (named_form r (dummy_bound c d.low)))

abbrev pub is_none_left : List BoundTree → Bool
is_none_left [] = true
is_none_left (b ∷ bs) = false

-- where that is the last dimension, or both have the same extent in it
abbrev pub dimension_row : SidesTree → ℕ → ℕ → BoundTree → BoundTree → List BoundTree → Option Row
dimension_row c r k a d as' = if is_none_left as' || same_extent c a d then aligned_row c r k a d else None

abbrev pub row_before : Option Row → Option (List Row) → Option (List Row)
row_before None o = None
row_before (Some x) None = None
row_before (Some x) (Some xs) = Some (x ∷ xs)

-- each dimension, from the k-th on, where all but the last have equal extents
abbrev pub aligned_rows : SidesTree → ℕ → ℕ → List BoundTree → List BoundTree → Option (List Row)
aligned_rows c r k [] [] = Some []
aligned_rows c r k [] (d ∷ ds) = None
aligned_rows c r k (a ∷ as') [] = None
aligned_rows c r k (a ∷ as') (d ∷ ds) = row_before (dimension_row c r k a d as') (aligned_rows c r (suc k) as' ds)

-- ---- places in the order of elements

abbrev pub number_in : ConstantValue → Option ℤ
number_in (Is (Int n)) = Some n
number_in (Is (Log b)) = None
number_in Faults = None
number_in Varies = None

abbrev pub high_number : (List ℕ → Option Constant) → Option ExprTree → Option ℤ
high_number value None = None
high_number value (Some e) = number_in (const_value value e)

abbrev pub size_between : Option ℤ → Option ℤ → Option ℤ
size_between None h = None
size_between (Some l) None = None
size_between (Some l) (Some h) = Some ((h -ℤ l) +ℤ pos 1)

-- how many subscripts a dimension with constant bounds has
abbrev pub size_of : (List ℕ → Option Constant) → BoundTree → Option ℤ
size_of value b = size_between (number_in (const_value value b.low)) (high_number value b.high)

-- a sum and n times another
abbrev pub sum_with : Option Affine → Option ℤ → Option Affine → Option Affine
sum_with f None g = None
sum_with f (Some n) g = sum_of f n g

-- with a dimension of this size the places after it count as much; of the last one the size does not matter
abbrev pub before_dimensions : Option Affine → Option ℤ → List BoundTree → Option Affine → Option Affine
before_dimensions f n [] g = f
before_dimensions f n (b ∷ bs) g = sum_with f n g

-- the place of the element with the subscripts Phi(k) .., from 0 for the first of the array
abbrev pub whole_position : SidesTree → ℕ → List BoundTree → Option Affine
whole_position c k [] = Some zero
whole_position c k (b ∷ bs) = before_dimensions (offset (Phi k) (actual_bound c b.low)) (size_of c.caller.scalars.value b) bs (whole_position c (suc k) bs)

-- the same, from 0 for an element
abbrev pub element_position : SidesTree → ℕ → ExprTrees → List BoundTree → Option Affine
element_position c k tree.no_exprs [] = Some zero
element_position c k tree.no_exprs (b ∷ bs) = None
element_position c k (tree.more_exprs e es) [] = None
element_position c k (tree.more_exprs e es) (b ∷ bs) = before_dimensions (offset (Phi k) (affine_of c.caller.scalars e)) (size_of c.caller.scalars.value b) bs (element_position c (suc k) es bs)

-- the same of the callee's array
abbrev pub dummy_position : SidesTree → ℕ → ℕ → List BoundTree → Option Affine
dummy_position c r k [] = Some zero
dummy_position c r k (b ∷ bs) = before_dimensions (offset (Aux k) (named_form r (dummy_bound c b.low))) (size_of c.callee.scalars.value b) bs (dummy_position c r (suc k) bs)

-- the place of the unit Phi(1) of a block, where o units come before that with the place 0
abbrev pub block_position : ℕ → Option Affine
block_position o = offset (Phi 1) (limited (affine [] (pos (suc o))))
