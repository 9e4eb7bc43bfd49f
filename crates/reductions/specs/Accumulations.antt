-- Assignments that accumulate in a variable V: V=V+e-f, V=e+V, V=MAX(V,e), V=V.AND.e and the like, where no other operand has V.
use Rattle.std.specs.Prelude.{ℕ, Bool, true, false, not, ◌&&◌, ◌||◌, if◌then◌else◌, nat_eq, bytes_eq, codes, List, [], Option, Some, None}
use Rattle.f77_ast.specs.declared.expr.BinaryOp.{BinaryOp}
use Rattle.f77_ast.specs.declared.expr.BinaryOp.TheVariants.{Add, Sub, Mul, Div, Pow, Eq, Ne, Lt, Le, Gt, Ge, And, Or, Eqv, Neqv}
use Rattle.f77_ast.specs.declared.decl.Scalar.{Scalar}
use Rattle.f77_ast.specs.declared.decl.Scalar.TheVariants as scalar
use Rattle.f77_ast.specs.Trees.{ExprTree, ExprTrees}
use Rattle.f77_ast.specs.Trees as tree
use Rattle.f77_ast.specs.Symbols.{SymbolTree, number_from}
use Rattle.f77_ast.specs.Shared.{symbol_at}
use Rattle.f77_meaning.specs.Modules.{symbol_names}
use Rattle.call_graph.specs.Actuals.{is_array as has_array}
use Rattle.loop_marker.specs.Names.{has_name}
use Rattle.result_lines.specs.declared.reduction.ReduceOp.{ReduceOp}
use Rattle.result_lines.specs.declared.reduction.ReduceOp.TheVariants.{Sum, Max, Min, And as AndOp, Or as OrOp}

-- ---- operators

abbrev pub op_number : ReduceOp → ℕ
op_number Sum = 0
op_number Max = 1
op_number Min = 2
op_number AndOp = 3
op_number OrOp = 4

abbrev pub same_op : ReduceOp → ReduceOp → Bool
same_op a b = nat_eq (op_number a) (op_number b)

-- how an operator joins a further operand to what is before it
abbrev pub joining : BinaryOp → Option ReduceOp
joining Add = Some Sum
joining Sub = Some Sum
joining Mul = None
joining Div = None
joining Pow = None
joining Eq = None
joining Ne = None
joining Lt = None
joining Le = None
joining Gt = None
joining Ge = None
joining And = Some AndOp
joining Or = Some OrOp
joining Eqv = None
joining Neqv = None

abbrev pub is_op : ReduceOp → Option ReduceOp → Bool
is_op p None = false
is_op p (Some q) = same_op p q

abbrev pub joins : ReduceOp → BinaryOp → Bool
joins p o = is_op p (joining o)

abbrev pub is_minus : BinaryOp → Bool
is_minus Add = false
is_minus Sub = true
is_minus Mul = false
is_minus Div = false
is_minus Pow = false
is_minus Eq = false
is_minus Ne = false
is_minus Lt = false
is_minus Le = false
is_minus Gt = false
is_minus Ge = false
is_minus And = false
is_minus Or = false
is_minus Eqv = false
is_minus Neqv = false

-- ---- expressions

-- just the name
abbrev pub is_name : List ℕ → ExprTree → Bool
is_name x (tree.int n) = false
is_name x (tree.log b) = false
is_name x (tree.name y) = bytes_eq x y
is_name x (tree.element y es) = false
is_name x (tree.paren e) = false
is_name x (tree.unary o e) = false
is_name x (tree.binary o a b) = false
is_name x (tree.chars t) = false

-- the name is the first operand of a chain of operators that join so, and stands in no other operand; a chain may have no operator
abbrev pub is_chain : ReduceOp → List ℕ → ExprTree → Bool
is_chain p x (tree.int n) = false
is_chain p x (tree.log b) = false
is_chain p x (tree.name y) = bytes_eq x y
is_chain p x (tree.element y es) = false
is_chain p x (tree.paren e) = false
is_chain p x (tree.unary o e) = false
is_chain p x (tree.binary o a b) = joins p o && (is_chain p x a && not (has_name x b))
is_chain p x (tree.chars t) = false

-- the first is just the name, and the other one does not have it
abbrev pub is_with : List ℕ → ExprTree → ExprTree → Bool
is_with x a b = is_name x a && not (has_name x b)

-- V+e-f, or e+V
abbrev pub joined_by : Option ReduceOp → List ℕ → BinaryOp → ExprTree → ExprTree → Option ReduceOp
joined_by None x o a b = None
joined_by (Some p) x o a b = if (is_chain p x a && not (has_name x b)) || (not (is_minus o) && is_with x b a) then Some p else None

abbrev pub by_operator : List ℕ → BinaryOp → ExprTree → ExprTree → Option ReduceOp
by_operator x o a b = joined_by (joining o) x o a b

-- the intrinsic functions that accumulate (ANSI X3.9-1978 §15.10)
abbrev pub called : List ℕ → Option ReduceOp
called f =
    if bytes_eq f (codes "MAX") || bytes_eq f (codes "MAX0") then Some Max
    else if bytes_eq f (codes "MIN") || bytes_eq f (codes "MIN0") then Some Min
    else None

-- MAX(V,e), or MAX(e,V)
abbrev pub of_arguments : List ℕ → List ℕ → ExprTrees → Option ReduceOp
of_arguments x f tree.no_exprs = None
of_arguments x f (tree.more_exprs a tree.no_exprs) = None
of_arguments x f (tree.more_exprs a (tree.more_exprs b tree.no_exprs)) = if is_with x a b || is_with x b a then called f else None
of_arguments x f (tree.more_exprs a (tree.more_exprs b (tree.more_exprs c es))) = None

abbrev pub symbol_of : List SymbolTree → Option ℕ → Option SymbolTree
symbol_of ss None = None
symbol_of ss (Some n) = symbol_at ss n

-- the name is that of an array
abbrev pub is_array : List SymbolTree → List ℕ → Bool
is_array ss x = has_array (symbol_of ss (number_from 1 (symbol_names ss) x))

abbrev pub by_function : List SymbolTree → List ℕ → List ℕ → ExprTrees → Option ReduceOp
by_function ss x f es = if is_array ss f then None else of_arguments x f es

-- ---- assignments

-- of this right side to the variable of the name
abbrev pub by_right : List SymbolTree → List ℕ → ExprTree → Option ReduceOp
by_right ss x (tree.int n) = None
by_right ss x (tree.log b) = None
by_right ss x (tree.name y) = None
by_right ss x (tree.element f es) = by_function ss x f es
by_right ss x (tree.paren e) = None
by_right ss x (tree.unary o e) = None
by_right ss x (tree.binary o a b) = by_operator x o a b
by_right ss x (tree.chars t) = None

-- sums, MAX and MIN are of INTEGER variables, the others of LOGICAL ones
abbrev pub is_integer : Scalar → Bool
is_integer scalar.Int = true
is_integer scalar.Log = false

abbrev pub suits : ReduceOp → Scalar → Bool
suits Sum t = is_integer t
suits Max t = is_integer t
suits Min t = is_integer t
suits AndOp t = not (is_integer t)
suits OrOp t = not (is_integer t)

abbrev pub if_suits : Option ReduceOp → Scalar → Option ReduceOp
if_suits None t = None
if_suits (Some p) t = if suits p t then Some p else None

-- the operator by which an assignment of this right side to the variable accumulates in it, if it does
abbrev pub accumulation : List SymbolTree → SymbolTree → ExprTree → Option ReduceOp
accumulation ss v right = if_suits (by_right ss v.name right) v.scalar
