-- The plain tree of an expression and of a list of them.
use Rattle.std.specs.Prelude.{List, [], ◌∷◌, map}
use Rattle.f77_ast.specs.declared.expr.Expr.{Expr, Row_of-Expr, end_of-Expr, more_of-Expr}
use Rattle.f77_ast.specs.declared.expr.Expr.TheVariants.{Int, Log, Name, Element', Paren', Unary', Binary', Chars}
use Rattle.f77_ast.specs.Trees.{ExprTree, int, log, name, element, paren, unary, binary, chars, ExprTrees, no_exprs, more_exprs}

unfoldable mutual
  -- an expression without pointers
  pub expr_tree : Expr → ExprTree
  expr_tree (Int n) = int n
  expr_tree (Log b) = log b
  expr_tree (Name n) = name n
  expr_tree (Element' n shape row) = element n (row_trees row)
  expr_tree (Paren' p e) = paren (expr_tree e)
  expr_tree (Unary' op p e) = unary op (expr_tree e)
  expr_tree (Binary' op p a q b) = binary op (expr_tree a) (expr_tree b)
  expr_tree (Chars c) = chars c

  pub row_trees : {m : _} → Row_of-Expr m → ExprTrees
  row_trees end_of-Expr = no_exprs
  row_trees (more_of-Expr e rest) = more_exprs (expr_tree e) (row_trees rest)

-- plain trees one after another
abbrev pub exprs_of : List ExprTree → ExprTrees
exprs_of [] = no_exprs
exprs_of (t ∷ ts) = more_exprs t (exprs_of ts)

-- a list of expressions, as a list of plain trees
abbrev pub expr_trees : List Expr → ExprTrees
expr_trees es = exprs_of (map expr_tree es)
