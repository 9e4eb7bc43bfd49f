-- Rows on the subscripts of an array element (ANSI X3.9-1978 §5.4). Phi(k) is the subscript of the k-th dimension.
use Rattle.std.specs.Prelude.{ℕ, suc, Bool, true, ◌&&◌, is_some, List, [], ◌∷◌, ◌++◌, Option, Some, None}
use Rattle.affine_systems.specs.declared.row.Var.TheVariants.{Phi}
use Rattle.affine_systems.specs.declared.row.Row.{Row}
use Rattle.f77_ast.specs.Trees.{ExprTree, ExprTrees}
use Rattle.f77_ast.specs.Trees as tree
use Rattle.f77_ast.specs.declared.constant.Constant.{Constant}
use Rattle.f77_ast.specs.declared.constant.Constant.TheVariants.{Int, Log}
use Rattle.f77_ast.specs.declared.constant.ConstantValue.{ConstantValue}
use Rattle.f77_ast.specs.declared.constant.ConstantValue.TheVariants.{Is, Faults, Varies}
use Rattle.f77_ast.specs.Constants.{const_value}
use Rattle.f77_ast.specs.Symbols.{BoundTree}
use Rattle.affine_forms.specs.declared.affine.Affine.{Affine}
use Rattle.affine_forms.specs.Forms.{affine, affine_of}
use Rattle.affine_forms.specs.Comparisons.{var_form, at_most_row, same_row}
use Rattle.call_translation.specs.Scopes.{ScopeTree}

-- ---- bounds that are constant

abbrev pub constant_form : ConstantValue → Option Affine
constant_form (Is (Int n)) = Some (affine [] n)
constant_form (Is (Log b)) = None
constant_form Faults = None
constant_form Varies = None

abbrev pub low_rows : Option Affine → ℕ → List Row
low_rows None k = []
low_rows (Some f) k = at_most_row f (var_form (Phi k)) ∷ []

abbrev pub high_rows : Option Affine → ℕ → List Row
high_rows None k = []
high_rows (Some f) k = at_most_row (var_form (Phi k)) f ∷ []

-- none of `*`
abbrev pub high_form : (List ℕ → Option Constant) → Option ExprTree → Option Affine
high_form value None = None
high_form value (Some e) = constant_form (const_value value e)

abbrev pub bound_rows : (List ℕ → Option Constant) → BoundTree → ℕ → List Row
bound_rows value b k = low_rows (constant_form (const_value value b.low)) k ++ high_rows (high_form value b.high) k

-- ---- subscripts

-- what the subscript is, where it has a form; else its bounds, where they are constant
abbrev pub dimension_rows : (List ℕ → Option Constant) → Option Affine → BoundTree → ℕ → List Row
dimension_rows value (Some f) b k = same_row (var_form (Phi k)) f ∷ []
dimension_rows value None b k = bound_rows value b k

-- of each dimension, from the k-th on
abbrev pub subscript_rows : ScopeTree → ℕ → ExprTrees → List BoundTree → List Row
subscript_rows m k tree.no_exprs bs = []
subscript_rows m k (tree.more_exprs e es) [] = []
subscript_rows m k (tree.more_exprs e es) (b ∷ bs) = dimension_rows m.scalars.value (affine_of m.scalars e) b k ++ subscript_rows m (suc k) es bs

-- each subscript has a form
abbrev pub all_affine : ScopeTree → ExprTrees → List BoundTree → Bool
all_affine m tree.no_exprs bs = true
all_affine m (tree.more_exprs e es) [] = true
all_affine m (tree.more_exprs e es) (b ∷ bs) = is_some (affine_of m.scalars e) && all_affine m es bs

-- ---- all dimensions

-- the constant bounds of each dimension, from the k-th on
abbrev pub bounds_rows : (List ℕ → Option Constant) → ℕ → List BoundTree → List Row
bounds_rows value k [] = []
bounds_rows value k (b ∷ bs) = bound_rows value b k ++ bounds_rows value (suc k) bs
