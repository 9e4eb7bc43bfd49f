-- How the operators are written (ANSI X3.9-1978 §6).
use Rattle.std.specs.Prelude.{ℕ, List, codes}
use Rattle.f77_ast.specs.declared.expr.UnaryOp.{UnaryOp}
use Rattle.f77_ast.specs.declared.expr.UnaryOp.TheVariants.{Plus, Minus, Not}
use Rattle.f77_ast.specs.declared.expr.BinaryOp.{BinaryOp}
use Rattle.f77_ast.specs.declared.expr.BinaryOp.TheVariants.{Add, Sub, Mul, Div, Pow, Eq, Ne, Lt, Le, Gt, Ge, And, Or, Eqv, Neqv}

abbrev pub unary_word : UnaryOp → List ℕ
unary_word Plus = codes "+"
unary_word Minus = codes "-"
unary_word Not = codes ".NOT."

abbrev pub binary_word : BinaryOp → List ℕ
binary_word Add = codes "+"
binary_word Sub = codes "-"
binary_word Mul = codes "*"
binary_word Div = codes "/"
binary_word Pow = codes "**"
binary_word Eq = codes ".EQ."
binary_word Ne = codes ".NE."
binary_word Lt = codes ".LT."
binary_word Le = codes ".LE."
binary_word Gt = codes ".GT."
binary_word Ge = codes ".GE."
binary_word And = codes ".AND."
binary_word Or = codes ".OR."
binary_word Eqv = codes ".EQV."
binary_word Neqv = codes ".NEQV."
