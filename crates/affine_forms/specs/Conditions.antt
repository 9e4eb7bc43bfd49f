-- What a LOGICAL expression says of the tracked cells where it is true, and where it is false.
use Rattle.std.specs.Prelude.{Bool, true, false, ◌&&◌, [], ◌∷◌, Option, Some, None}
use Rattle.affine_systems.specs.declared.row.System.{System}
use Rattle.affine_systems.specs.Rows.{false_row, system}
use Rattle.affine_systems.specs.Given.{Fits}
use Rattle.affine_systems.specs.Calls.{meet}
use Rattle.f77_ast.specs.declared.expr.UnaryOp.{UnaryOp}
use Rattle.f77_ast.specs.declared.expr.UnaryOp.TheVariants.{Plus, Minus, Not}
use Rattle.f77_ast.specs.declared.expr.BinaryOp.{BinaryOp}
use Rattle.f77_ast.specs.declared.expr.BinaryOp.TheVariants.{Add, Sub, Mul, Div, Pow, Eq, Ne, Lt, Le, Gt, Ge, And, Or, Eqv, Neqv}
use Rattle.f77_ast.specs.Trees.{ExprTree}
use Rattle.f77_ast.specs.Trees as tree
use Rattle.f77_ast.specs.declared.constant.Constant.{Constant}
use Rattle.f77_ast.specs.declared.constant.Constant.TheVariants.{Int, Log}
use Rattle.affine_forms.specs.declared.affine.Affine.{Affine}
use Rattle.affine_forms.specs.declared.conditions.Condition.{Condition}
use Rattle.affine_forms.specs.Scalars.{Scalars}
use Rattle.affine_forms.specs.Forms.{affine_of}
use Rattle.affine_forms.specs.Comparisons.{at_most, below, same}

-- {}
abbrev pub no_rows : System
no_rows = system [] false

-- FALSE
abbrev pub infeasible : System
infeasible = system (false_row ∷ []) false

abbrev pub condition : System → Bool → System → Bool → Condition
condition y e n f = record { yes = y; yes_exact = e; no = n; no_exact = f }

-- both sides are systems as calls give and take them
abbrev pub ConditionFits : Condition → Type 0
ConditionFits c = Fits c.yes × Fits c.no

abbrev pub exactly : System → System → Condition
exactly y n = condition y true n true

-- nothing is known where it is false
abbrev pub only_yes : System → Bool → Condition
only_yes y e = condition y e no_rows false

-- nothing is known where it is true
abbrev pub only_no : System → Bool → Condition
only_no n e = condition no_rows false n e

abbrev pub unknown : Condition
unknown = condition no_rows false no_rows false

abbrev pub of_truth : Bool → Condition
of_truth true = exactly no_rows infeasible
of_truth false = exactly infeasible no_rows

-- of a name that stands for a LOGICAL constant
abbrev pub constant_condition : Option Constant → Condition
constant_condition (Some (Log b)) = of_truth b
constant_condition (Some (Int n)) = unknown
constant_condition None = unknown

abbrev pub negation : Condition → Condition
negation c = condition c.no c.no_exact c.yes c.yes_exact

abbrev pub both : Condition → Condition → Condition
both c d = only_yes (meet c.yes d.yes) (c.yes_exact && d.yes_exact)

abbrev pub either : Condition → Condition → Condition
either c d = only_no (meet c.no d.no) (c.no_exact && d.no_exact)

-- a comparison is of two forms; of other operators nothing is known here
abbrev pub comparison : BinaryOp → Affine → Affine → Condition
comparison Lt f g = exactly (below f g) (at_most g f)
comparison Le f g = exactly (at_most f g) (below g f)
comparison Gt f g = exactly (below g f) (at_most f g)
comparison Ge f g = exactly (at_most g f) (below f g)
comparison Eq f g = only_yes (same f g) true
comparison Ne f g = only_no (same f g) true
comparison Add f g = unknown
comparison Sub f g = unknown
comparison Mul f g = unknown
comparison Div f g = unknown
comparison Pow f g = unknown
comparison And f g = unknown
comparison Or f g = unknown
comparison Eqv f g = unknown
comparison Neqv f g = unknown

abbrev pub comparison_of_forms : BinaryOp → Option Affine → Option Affine → Condition
comparison_of_forms o (Some f) (Some g) = comparison o f g
comparison_of_forms o (Some f) None = unknown
comparison_of_forms o None g = unknown

abbrev pub unary_condition : UnaryOp → Condition → Condition
unary_condition Plus c = unknown
unary_condition Minus c = unknown
unary_condition Not c = negation c

-- from the conditions of both operands, or from their forms
abbrev pub binary_condition : BinaryOp → Condition → Condition → Option Affine → Option Affine → Condition
binary_condition And c d f g = both c d
binary_condition Or c d f g = either c d
binary_condition Eq c d f g = comparison_of_forms Eq f g
binary_condition Ne c d f g = comparison_of_forms Ne f g
binary_condition Lt c d f g = comparison_of_forms Lt f g
binary_condition Le c d f g = comparison_of_forms Le f g
binary_condition Gt c d f g = comparison_of_forms Gt f g
binary_condition Ge c d f g = comparison_of_forms Ge f g
binary_condition Add c d f g = comparison_of_forms Add f g
binary_condition Sub c d f g = comparison_of_forms Sub f g
binary_condition Mul c d f g = comparison_of_forms Mul f g
binary_condition Div c d f g = comparison_of_forms Div f g
binary_condition Pow c d f g = comparison_of_forms Pow f g
binary_condition Eqv c d f g = comparison_of_forms Eqv f g
binary_condition Neqv c d f g = comparison_of_forms Neqv f g

abbrev pub condition_of : Scalars → ExprTree → Condition
condition_of k (tree.int n) = unknown
condition_of k (tree.log b) = of_truth b
condition_of k (tree.name x) = constant_condition (k.value x)
condition_of k (tree.element x es) = unknown
condition_of k (tree.paren e) = condition_of k e
condition_of k (tree.unary o e) = unary_condition o (condition_of k e)
condition_of k (tree.binary o a b) = binary_condition o (condition_of k a) (condition_of k b) (affine_of k a) (affine_of k b)
condition_of k (tree.chars x) = unknown
