-- The operators that stand here.
use Rattle.std.specs.Prelude.{List, [], ◌∷◌, Option, Some, None}
use Rattle.f77_ast.specs.declared.expr.BinaryOp.{BinaryOp}
use Rattle.f77_ast.specs.declared.expr.BinaryOp.TheVariants.{Add, Sub, Mul, Div, Eq, Ne, Lt, Le, Gt, Ge, And, Or, Eqv, Neqv}
use Rattle.f77_ast.specs.Operators.{binary_word}
use Rattle.f77_exprs.specs.State.{State, Reader, parse_word}

-- this operator, or another reading where its word is not there
abbrev pub or_other : BinaryOp → Option State → Option (BinaryOp × State) → Option (BinaryOp × State)
or_other op (Some t) other = Some (op, t)
or_other op None other = other

-- the first of these operators whose word stands here
abbrev pub one_of : List BinaryOp → Reader BinaryOp
one_of [] s = None
one_of (op ∷ ops) s = or_other op (parse_word (binary_word op) s) (one_of ops s)

abbrev pub relations : List BinaryOp
relations = Eq ∷ Ne ∷ Lt ∷ Le ∷ Gt ∷ Ge ∷ []

abbrev pub equivalences : List BinaryOp
equivalences = Eqv ∷ Neqv ∷ []

abbrev pub sums : List BinaryOp
sums = Add ∷ Sub ∷ []

abbrev pub products : List BinaryOp
products = Mul ∷ Div ∷ []

-- the operators between points
abbrev pub dotted : List BinaryOp
dotted = Eq ∷ Ne ∷ Lt ∷ Le ∷ Gt ∷ Ge ∷ And ∷ Or ∷ Eqv ∷ Neqv ∷ []
