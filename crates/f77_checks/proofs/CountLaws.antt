-- How many trees a list has.
use Rattle.std.proofs.Common.{◌≡◌, suc, List, [], ◌∷◌, length, refl, ap}
use Rattle.f77_ast.specs.declared.expr.Expr.{Expr}
use Rattle.f77_ast.specs.Plain.{expr_trees}
use Rattle.f77_checks.specs.Expressions.{count}

pub count_is : (es : List Expr) → count (expr_trees es) ≡ length es
count_is [] = refl
count_is (e ∷ es) = ap suc (count_is es)
