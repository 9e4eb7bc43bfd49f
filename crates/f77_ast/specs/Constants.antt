-- Constant expressions: literals, names of constants, parentheses and operators (ANSI X3.9-1978 §6.1.3, §6.4.4).
use Rattle.std.specs.Prelude.{ℕ, ℤ, List, Option, Some, None, Bool, true, false, ◌&&◌, if◌then◌else◌}
use Rattle.f77_ast.specs.declared.expr.UnaryOp.{UnaryOp}
use Rattle.f77_ast.specs.declared.expr.UnaryOp.TheVariants.{Plus, Minus, Not}
use Rattle.f77_ast.specs.declared.expr.BinaryOp.{BinaryOp}
use Rattle.f77_ast.specs.Trees.{ExprTree}
use Rattle.f77_ast.specs.Trees as tree
use Rattle.f77_ast.specs.Store.{truth}
use Rattle.f77_ast.specs.Store as store
use Rattle.f77_ast.specs.Numbers.{unary_number, binary_number, binary_tag, is_true, same_truth}
use Rattle.f77_ast.specs.declared.expr.BinaryOp.TheVariants.{Add, Sub, Mul, Div, Pow, Eq, Ne, Lt, Le, Gt, Ge, And, Or, Eqv, Neqv}
use Rattle.f77_ast.specs.declared.constant.Constant.{Constant}
use Rattle.f77_ast.specs.declared.constant.Constant.TheVariants.{Int, Log}
use Rattle.f77_ast.specs.declared.constant.ConstantValue.{ConstantValue}
use Rattle.f77_ast.specs.declared.constant.ConstantValue.TheVariants.{Is, Faults, Varies}

abbrev pub is_logical : Constant → Bool
is_logical (Int n) = false
is_logical (Log b) = true

-- the number itself; 1 for true, and 0 for false
abbrev pub number_of : Constant → ℤ
number_of (Int n) = n
number_of (Log b) = truth b

-- a constant of the type that the number stands for, or the fault of the arithmetic
abbrev pub const_value_as : Bool → Option ℤ → ConstantValue
const_value_as logical None = Faults
const_value_as true (Some n) = Is (Log (is_true n))
const_value_as false (Some n) = Is (Int n)

-- the operators on LOGICAL operands (§6.4)
abbrev pub turns_logical : UnaryOp → Bool
turns_logical Plus = false
turns_logical Minus = false
turns_logical Not = true

abbrev pub joins_logical : BinaryOp → Bool
joins_logical Add = false
joins_logical Sub = false
joins_logical Mul = false
joins_logical Div = false
joins_logical Pow = false
joins_logical Eq = false
joins_logical Ne = false
joins_logical Lt = false
joins_logical Le = false
joins_logical Gt = false
joins_logical Ge = false
joins_logical And = true
joins_logical Or = true
joins_logical Eqv = true
joins_logical Neqv = true

-- the operators that give a LOGICAL value: those, and comparisons (§6.3)
abbrev pub is_log : store.Tag → Bool
is_log store.Int = false
is_log store.Log = true
is_log store.Undefined = false

abbrev pub gives_logical : BinaryOp → Bool
gives_logical op = is_log (binary_tag op)

-- of an operand of another type than the operator takes the evaluation faults
abbrev pub unary_of : UnaryOp → Constant → ConstantValue
unary_of op c =
    if same_truth (is_logical c) (turns_logical op) then const_value_as (turns_logical op) (unary_number op (number_of c)) else Faults

abbrev pub unary_const_value : UnaryOp → ConstantValue → ConstantValue
unary_const_value op (Is c) = unary_of op c
unary_const_value op Faults = Faults
unary_const_value op Varies = Varies

abbrev pub binary_of : BinaryOp → Constant → Constant → ConstantValue
binary_of op c d =
    if same_truth (is_logical c) (joins_logical op) && same_truth (is_logical d) (joins_logical op)
    then const_value_as (gives_logical op) (binary_number op (number_of c) (number_of d))
    else Faults

-- that an operand is no constant expression comes before a fault of the other
abbrev pub binary_const_value : BinaryOp → ConstantValue → ConstantValue → ConstantValue
binary_const_value op Varies w = Varies
binary_const_value op Faults Varies = Varies
binary_const_value op Faults Faults = Faults
binary_const_value op Faults (Is d) = Faults
binary_const_value op (Is c) Varies = Varies
binary_const_value op (Is c) Faults = Faults
binary_const_value op (Is c) (Is d) = binary_of op c d

abbrev pub named_const_value : Option Constant → ConstantValue
named_const_value None = Varies
named_const_value (Some c) = Is c

-- the value of an expression, with the values of names; elements, intrinsic functions and characters are no constant expressions
abbrev pub const_value : (List ℕ → Option Constant) → ExprTree → ConstantValue
const_value value (tree.int n) = Is (Int n)
const_value value (tree.log b) = Is (Log b)
const_value value (tree.name x) = named_const_value (value x)
const_value value (tree.element x es) = Varies
const_value value (tree.paren e) = const_value value e
const_value value (tree.unary op e) = unary_const_value op (const_value value e)
const_value value (tree.binary op a b) = binary_const_value op (const_value value a) (const_value value b)
const_value value (tree.chars x) = Varies
