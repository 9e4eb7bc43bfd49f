-- Names in expressions.
use Rattle.std.specs.Prelude.{ℕ, Bool, true, false, ◌||◌, List, Option, Some, None, bytes_eq}
use Rattle.f77_ast.specs.Trees.{ExprTree, ExprTrees, LoopTree}
use Rattle.f77_ast.specs.Trees as tree

abbrev mutual
  -- the name stands in the expression, of a variable, an array or a function
  pub has_name : List ℕ → ExprTree → Bool
  has_name x (tree.int n) = false
  has_name x (tree.log b) = false
  has_name x (tree.name y) = bytes_eq x y
  has_name x (tree.element y es) = bytes_eq x y || have_name x es
  has_name x (tree.paren e) = has_name x e
  has_name x (tree.unary o e) = has_name x e
  has_name x (tree.binary o a b) = has_name x a || has_name x b
  has_name x (tree.chars t) = false

  pub have_name : List ℕ → ExprTrees → Bool
  have_name x tree.no_exprs = false
  have_name x (tree.more_exprs e es) = has_name x e || have_name x es

abbrev pub step_has_name : List ℕ → Option ExprTree → Bool
step_has_name x None = false
step_has_name x (Some e) = has_name x e

-- in the first, the last or the step of a DO (ANSI X3.9-1978 §11.10)
abbrev pub bounds_have_name : List ℕ → LoopTree → Bool
bounds_have_name x (tree.loop index first last step body) = has_name x first || (has_name x last || step_has_name x step)
