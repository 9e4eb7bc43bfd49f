-- The dimensions of arrays (ANSI X3.9-1978 §5.1).
use Rattle.std.specs.Prelude.{ℕ, Bool, true, false, not, ◌&&◌, ◌||◌, nat_lt, ℤ, int_lt, List, [], ◌∷◌, length, Option, Some, None, is_some, is_none, if◌then◌else◌}
use Rattle.f77_ast.specs.Trees.{ExprTree}
use Rattle.f77_ast.specs.Trees as tree
use Rattle.f77_ast.specs.Places.{Dim, total_size}
use Rattle.f77_ast.specs.declared.constant.Constant.TheVariants.{Int, Log}
use Rattle.f77_ast.specs.declared.constant.ConstantValue.{ConstantValue}
use Rattle.f77_ast.specs.declared.constant.ConstantValue.TheVariants.{Is, Faults, Varies}
use Rattle.f77_ast.specs.Constants.{const_value, turns_logical, gives_logical}
use Rattle.f77_ast.specs.Symbols.{BoundTree}
use Rattle.fx_lists.specs.declared.code.Code.TheVariants.{BadDimension}
use Rattle.fx_lists.specs.declared.refusal.Refusal.{Refusal}
use Rattle.f77_names.specs.declared.kinds.Kind.{Kind}
use Rattle.f77_names.specs.declared.kinds.Kind.TheVariants as kind
use Rattle.fx_lists.specs.Refusals.{refuse_if}
use Rattle.f77_names.specs.Entries.{ShapeTree, EntryTree, find, of_entry, value_among}
use Rattle.f77_names.specs.Tables.{NameTable, entry_kind}
use Rattle.f77_checks.specs.Expressions.{check_expr}

-- ---- bounds

abbrev pub is_int_kind : Kind → Bool
is_int_kind kind.Int = true
is_int_kind kind.Log = false
is_int_kind kind.Real = false

-- an INTEGER scalar that is a PARAMETER, a dummy or in COMMON
abbrev pub may_adjust : NameTable → EntryTree → Bool
may_adjust t e = is_none e.shape && (is_int_kind (entry_kind t.kinds e) && (e.parameter || (is_some e.dummy || is_some e.common)))

-- an integer expression of constants and such scalars (§5.1.1.1)
abbrev pub is_adjustable : NameTable → ExprTree → Bool
is_adjustable t (tree.int n) = true
is_adjustable t (tree.log b) = false
is_adjustable t (tree.name x) = of_entry false (may_adjust t) (find x t.entries)
is_adjustable t (tree.element x es) = false
is_adjustable t (tree.paren e) = is_adjustable t e
is_adjustable t (tree.unary o e) = not (turns_logical o) && is_adjustable t e
is_adjustable t (tree.binary o a b) = not (gives_logical o) && (is_adjustable t a && is_adjustable t b)
is_adjustable t (tree.chars x) = false

-- constants are integers and do not fault; other bounds are adjustable ones of dummies
abbrev pub is_bad_const_value : NameTable → Bool → ExprTree → ConstantValue → Bool
is_bad_const_value t dummy e (Is (Int n)) = false
is_bad_const_value t dummy e (Is (Log b)) = true
is_bad_const_value t dummy e Faults = true
is_bad_const_value t dummy e Varies = not (dummy && is_adjustable t e)

abbrev pub const_value_in : NameTable → ExprTree → ConstantValue
const_value_in t e = const_value (value_among t.entries) e

abbrev pub is_bad_limit : NameTable → Bool → ExprTree → Bool
is_bad_limit t dummy e = is_bad_const_value t dummy e (const_value_in t e)

abbrev pub is_below : ConstantValue → ConstantValue → Bool
is_below (Is (Int high)) (Is (Int low)) = int_lt high low
is_below (Is (Int high)) (Is (Log b)) = false
is_below (Is (Int high)) Faults = false
is_below (Is (Int high)) Varies = false
is_below (Is (Log b)) low = false
is_below Faults low = false
is_below Varies low = false

-- `*` is the last bound of a dummy
abbrev pub is_bad_high : NameTable → Bool → Bool → ExprTree → Option ExprTree → Bool
is_bad_high t dummy last low None = not (dummy && last)
is_bad_high t dummy last low (Some high) = is_bad_limit t dummy high || is_below (const_value_in t high) (const_value_in t low)

abbrev pub is_bad_bound : NameTable → Bool → Bool → BoundTree → Bool
is_bad_bound t dummy last b = is_bad_limit t dummy b.low || is_bad_high t dummy last b.low b.high

abbrev pub is_last : List BoundTree → Bool
is_last [] = true
is_last (b ∷ bs) = false

abbrev pub has_bad_bound : NameTable → Bool → List BoundTree → Bool
has_bad_bound t dummy [] = false
has_bad_bound t dummy (b ∷ bs) = is_bad_bound t dummy (is_last bs) b || has_bad_bound t dummy bs

-- ---- constant bounds

abbrev pub dim_to : ℤ → ConstantValue → Option Dim
dim_to low (Is (Int high)) = Some (record { low = low; high = Some high })
dim_to low (Is (Log b)) = None
dim_to low Faults = None
dim_to low Varies = None

abbrev pub dim_from : ConstantValue → ConstantValue → Option Dim
dim_from (Is (Int low)) high = dim_to low high
dim_from (Is (Log b)) high = None
dim_from Faults high = None
dim_from Varies high = None

abbrev pub dim_up_to : NameTable → ConstantValue → Option ExprTree → Option Dim
dim_up_to t low None = None
dim_up_to t low (Some high) = dim_from low (const_value_in t high)

abbrev pub dim_of : NameTable → BoundTree → Option Dim
dim_of t b = dim_up_to t (const_value_in t b.low) b.high

abbrev pub with_dim : Option Dim → Option (List Dim) → Option (List Dim)
with_dim None ds = None
with_dim (Some d) None = None
with_dim (Some d) (Some ds) = Some (d ∷ ds)

-- the dimensions, where all bounds are constant
abbrev pub dims_of : NameTable → List BoundTree → Option (List Dim)
dims_of t [] = Some []
dims_of t (b ∷ bs) = with_dim (dim_of t b) (dims_of t bs)

abbrev pub is_too_big : Option (List Dim) → Bool
is_too_big None = false
is_too_big (Some ds) = nat_lt 2147483647 (total_size ds)

-- more than seven bounds, a bad bound, or more than 2147483647 units
abbrev pub is_bad_shape : NameTable → Bool → List BoundTree → Bool
is_bad_shape t dummy bs = nat_lt 7 (length bs) || (has_bad_bound t dummy bs || is_too_big (dims_of t bs))

abbrev pub entry_dims : NameTable → Bool → Option ShapeTree → Option (List Dim)
entry_dims t dummy None = Some []
entry_dims t dummy (Some s) = if is_bad_shape t dummy s.bounds then None else dims_of t s.bounds

-- the dimensions of a name, none for a scalar; not known where they are refused or not constant
abbrev pub dims_in : NameTable → EntryTree → Option (List Dim)
dims_in t e = entry_dims t (is_some e.dummy) e.shape

-- ---- refusals

abbrev pub check_maybe : NameTable → Option ExprTree → ℕ → Option Refusal → Option Refusal
check_maybe t None line found = found
check_maybe t (Some e) line found = check_expr t e line found

abbrev pub check_bounds : NameTable → List BoundTree → ℕ → Option Refusal → Option Refusal
check_bounds t [] line found = found
check_bounds t (b ∷ bs) line found = check_bounds t bs line (check_maybe t b.high line (check_expr t b.low line found))

abbrev pub check_shape : NameTable → Bool → Option ShapeTree → Option Refusal → Option Refusal
check_shape t dummy None found = found
check_shape t dummy (Some s) found = refuse_if (is_bad_shape t dummy s.bounds) s.line BadDimension (check_bounds t s.bounds s.line found)

abbrev pub check_shapes : NameTable → List EntryTree → Option Refusal → Option Refusal
check_shapes t [] found = found
check_shapes t (e ∷ es) found = check_shapes t es (check_shape t (is_some e.dummy) e.shape found)
