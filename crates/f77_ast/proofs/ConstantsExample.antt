-- Constant expressions, computed.
use Rattle.std.proofs.Common.{◌≡◌, ℕ, List, None, Some, true, false, refl, pos, negsuc}
use Rattle.std.specs.Prelude.{codes, Option, bytes_eq, if◌then◌else◌}
use Rattle.f77_ast.specs.declared.expr.UnaryOp.TheVariants.{Minus, Not}
use Rattle.f77_ast.specs.declared.expr.BinaryOp.TheVariants.{Add, Div, Pow, Lt, And}
use Rattle.f77_ast.specs.Trees.{ExprTree, int, log, name, binary, unary, element, no_exprs}
use Rattle.f77_ast.specs.declared.constant.Constant.{Constant}
use Rattle.f77_ast.specs.declared.constant.Constant.TheVariants.{Int, Log}
use Rattle.f77_ast.specs.declared.constant.ConstantValue.TheVariants.{Is, Faults, Varies}
use Rattle.f77_ast.specs.Constants.{const_value}

-- N is 3
abbrev few : List ℕ → Option Constant
few x = if bytes_eq x (codes "N") then Some (Int (pos 3)) else None

-- N+2147483644 is the last number, and one more is a fault
last_number : const_value few (binary Add (name (codes "N")) (int (pos 2147483644))) ≡ Is (Int (pos 2147483647))
last_number = refl

overflow_faults : const_value few (binary Add (name (codes "N")) (int (pos 2147483645))) ≡ Faults
overflow_faults = refl

-- 2**(-31) is 1/(2**31), and 2**31 is too big; (-2)**31 is not
small_power_faults : const_value few (binary Pow (int (pos 2)) (unary Minus (int (pos 31)))) ≡ Faults
small_power_faults = refl

negative_power : const_value few (binary Pow (int (negsuc 1)) (unary Minus (int (pos 31)))) ≡ Is (Int (pos 0))
negative_power = refl

-- N/0 faults, but with a name that is no constant it is no constant expression
division_faults : const_value few (binary Div (name (codes "N")) (int (pos 0))) ≡ Faults
division_faults = refl

variable_comes_first : const_value few (binary Add (binary Div (int (pos 1)) (int (pos 0))) (name (codes "M"))) ≡ Varies
variable_comes_first = refl

-- N.LT.4.AND..TRUE. is true, and 1+.TRUE. faults
comparison : const_value few (binary And (binary Lt (name (codes "N")) (int (pos 4))) (log true)) ≡ Is (Log true)
comparison = refl

wrong_type_faults : const_value few (binary Add (int (pos 1)) (log true)) ≡ Faults
wrong_type_faults = refl

function_varies : const_value few (element (codes "MAX") no_exprs) ≡ Varies
function_varies = refl
