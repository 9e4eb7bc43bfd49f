-- Actual arguments: their types, what they offer, and which dummies they may be associated with (ANSI X3.9-1978 §15.9.3).
use Rattle.std.specs.Prelude.{ℕ, Bool, true, false, not, ◌&&◌, List, [], ◌∷◌, Option, Some, None, if◌then◌else◌, bytes_eq}
use Rattle.f77_ast.specs.declared.decl.Scalar.{Scalar}
use Rattle.f77_ast.specs.declared.decl.Scalar.TheVariants.{Int, Log}
use Rattle.f77_ast.specs.declared.expr.UnaryOp.{UnaryOp}
use Rattle.f77_ast.specs.declared.expr.UnaryOp.TheVariants as unary_op
use Rattle.f77_ast.specs.declared.expr.BinaryOp.{BinaryOp}
use Rattle.f77_ast.specs.declared.expr.BinaryOp.TheVariants as binary_op
use Rattle.f77_ast.specs.Trees.{ExprTree, ExprTrees}
use Rattle.f77_ast.specs.Trees as tree
use Rattle.f77_ast.specs.declared.symbol.Place.{Place}
use Rattle.f77_ast.specs.declared.symbol.Place.TheVariants.{Local, Dummy, Block, Constant}
use Rattle.f77_ast.specs.Symbols.{SymbolTree}
pub use Rattle.tracked_cells.specs.Standing.{has_bounds}
use Rattle.call_graph.specs.declared.actuals.Offer.{Offer}
use Rattle.call_graph.specs.declared.actuals.Offer.TheVariants.{Array, Element, Variable, Value}
use Rattle.call_graph.specs.declared.actuals.Actual.{Actual}

-- the first symbol of a name
abbrev pub symbol_with_name : List SymbolTree → List ℕ → Option SymbolTree
symbol_with_name [] x = None
symbol_with_name (s ∷ ss) x = if bytes_eq x s.name then Some s else symbol_with_name ss x

-- ---- types

-- a name without a symbol is an intrinsic function
abbrev pub type_of_symbol : Option SymbolTree → Scalar
type_of_symbol None = Int
type_of_symbol (Some s) = s.scalar

abbrev pub is_array : Option SymbolTree → Bool
is_array None = false
is_array (Some s) = has_bounds s.bounds

-- an array element, or the value of an intrinsic function, which is INTEGER
abbrev pub element_type : Option SymbolTree → Scalar
element_type s = if is_array s then type_of_symbol s else Int

abbrev pub unary_type : UnaryOp → Scalar
unary_type unary_op.Plus = Int
unary_type unary_op.Minus = Int
unary_type unary_op.Not = Log

abbrev pub binary_type : BinaryOp → Scalar
binary_type binary_op.Add = Int
binary_type binary_op.Sub = Int
binary_type binary_op.Mul = Int
binary_type binary_op.Div = Int
binary_type binary_op.Pow = Int
binary_type binary_op.Eq = Log
binary_type binary_op.Ne = Log
binary_type binary_op.Lt = Log
binary_type binary_op.Le = Log
binary_type binary_op.Gt = Log
binary_type binary_op.Ge = Log
binary_type binary_op.And = Log
binary_type binary_op.Or = Log
binary_type binary_op.Eqv = Log
binary_type binary_op.Neqv = Log

-- the type of an expression that keeps the rules of types; texts stand in no CALL
abbrev pub type_of : ExprTree → List SymbolTree → Scalar
type_of (tree.int n) ss = Int
type_of (tree.log b) ss = Log
type_of (tree.name x) ss = type_of_symbol (symbol_with_name ss x)
type_of (tree.element x es) ss = element_type (symbol_with_name ss x)
type_of (tree.paren e) ss = type_of e ss
type_of (tree.unary o e) ss = unary_type o
type_of (tree.binary o a b) ss = binary_type o
type_of (tree.chars x) ss = Int

-- ---- what an actual offers

abbrev pub place_offer : Place → Offer
place_offer (Local g o) = Variable
place_offer (Dummy n) = Variable
place_offer (Block b o) = Variable
place_offer (Constant n) = Value

-- a bare name: a whole array, a variable, or the value of a PARAMETER
abbrev pub name_offer : Option SymbolTree → Offer
name_offer None = Value
name_offer (Some s) = if has_bounds s.bounds then Array else place_offer s.place

-- a name with parentheses: an array element, or the value of an intrinsic function
abbrev pub element_offer : Option SymbolTree → Offer
element_offer s = if is_array s then Element else Value

abbrev pub offer_of : ExprTree → List SymbolTree → Offer
offer_of (tree.int n) ss = Value
offer_of (tree.log b) ss = Value
offer_of (tree.name x) ss = name_offer (symbol_with_name ss x)
offer_of (tree.element x es) ss = element_offer (symbol_with_name ss x)
offer_of (tree.paren e) ss = Value
offer_of (tree.unary o e) ss = Value
offer_of (tree.binary o a b) ss = Value
offer_of (tree.chars x) ss = Value

abbrev pub actual_of : ExprTree → List SymbolTree → Actual
actual_of e ss = record { scalar = type_of e ss; offer = offer_of e ss }

abbrev pub actuals_of : ExprTrees → List SymbolTree → List Actual
actuals_of tree.no_exprs ss = []
actuals_of (tree.more_exprs e es) ss = actual_of e ss ∷ actuals_of es ss

-- ---- dummies

abbrev pub is_scalar_of : Scalar → Scalar → Bool
is_scalar_of Int Int = true
is_scalar_of Int Log = false
is_scalar_of Log Int = false
is_scalar_of Log Log = true

-- an array takes an array or an element; a scalar takes an element, a variable or an expression
abbrev pub suits : Offer → Bool → Bool
suits Array array = array
suits Element array = true
suits Variable array = not array
suits Value array = not array

-- an actual of the type of the dummy that offers what the dummy takes
abbrev pub fits : Actual → SymbolTree → Bool
fits a d = is_scalar_of a.scalar d.scalar && suits a.offer (has_bounds d.bounds)

-- each actual fits the symbol at its place; dummies come first
abbrev pub all_fit : List Actual → List SymbolTree → Bool
all_fit [] ss = true
all_fit (a ∷ as') [] = false
all_fit (a ∷ as') (s ∷ ss) = fits a s && all_fit as' ss
