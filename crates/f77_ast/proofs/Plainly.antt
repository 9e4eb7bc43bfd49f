-- The plain tree of each form of an expression.
use Rattle.std.proofs.Common.{◌≡◌, ℕ, ℤ, Bool, ◌+◌, ◌<◌, List, [], ◌∷◌, ◌++◌, length, get_or, drop, take, refl, ap, ◌∙◌, sym, add-one, append_assoc, append-nil}
use Rattle.std.proofs.Math.Seq.{drop-cons}
use Rattle.f77_ast.specs.declared.expr.UnaryOp.{UnaryOp}
use Rattle.f77_ast.specs.declared.expr.BinaryOp.{BinaryOp}
use Rattle.f77_ast.specs.declared.expr.Expr.{the_lemmas, Expr, Row_of-Expr, end_of-Expr, more_of-Expr, items-the_row-Expr, items_hidden-the_row-Expr-0}
use Rattle.f77_ast.specs.declared.expr.Expr.TheBlock.{hidden-the_row-Expr-0}
use Rattle.f77_ast.specs.declared.expr.Expr.TheVariants.{Int, Log, Name, Element, Paren', Unary', Binary', Chars}
use Rattle.f77_ast.specs.Trees.{int, log, name, element, paren, unary, binary, chars, more_exprs}
use Rattle.f77_ast.specs.Plain.{expr_tree, row_trees, expr_trees}

row_trees_is : {n : _} → (k : Row_of-Expr n) → row_trees k ≡ expr_trees (items-the_row-Expr n k)
unfolding expr_tree
row_trees_is end_of-Expr = refl
row_trees_is (more_of-Expr e rest) = ap (more_exprs (expr_tree e)) (row_trees_is rest)

row_trees-hidden : (es : List Expr) → row_trees (hidden-the_row-Expr-0 es) ≡ expr_trees es
row_trees-hidden es = row_trees_is (hidden-the_row-Expr-0 es) ∙ ap expr_trees (items_hidden-the_row-Expr-0 es)

-- ---- each variant

pub expr_tree-int : (n : ℤ) → expr_tree (Int n) ≡ int n
unfolding expr_tree
expr_tree-int n = refl

pub expr_tree-log : (b : Bool) → expr_tree (Log b) ≡ log b
unfolding expr_tree
expr_tree-log b = refl

pub expr_tree-name : (n : List ℕ) → expr_tree (Name n) ≡ name n
unfolding expr_tree
expr_tree-name n = refl

pub expr_tree-element : (f : List ℕ) (es : List Expr) → expr_tree (Element f es) ≡ element f (expr_trees es)
unfolding expr_tree
expr_tree-element f es = ap (element f) (row_trees-hidden es)

pub expr_tree-paren : (p : _) (e : Expr) → expr_tree (Paren' p e) ≡ paren (expr_tree e)
unfolding expr_tree
expr_tree-paren p e = refl

pub expr_tree-unary : (op : UnaryOp) (p : _) (e : Expr) → expr_tree (Unary' op p e) ≡ unary op (expr_tree e)
unfolding expr_tree
expr_tree-unary op p e = refl

pub expr_tree-binary : (op : BinaryOp) (p : _) (a : Expr) (q : _) (b : Expr) → expr_tree (Binary' op p a q b) ≡ binary op (expr_tree a) (expr_tree b)
unfolding expr_tree
expr_tree-binary op p a q b = refl

pub expr_tree-chars : (c : List ℕ) → expr_tree (Chars c) ≡ chars c
unfolding expr_tree
expr_tree-chars c = refl

pub ruleset expr_cases = (expr_tree-int, expr_tree-log, expr_tree-name, expr_tree-element, expr_tree-paren, expr_tree-unary, expr_tree-binary, expr_tree-chars)

-- ---- lists

-- what is left of a list, one tree later
pub expr_trees-drop : (es : List Expr) (i : ℕ) (d : Expr) → i < length es → expr_trees (drop i es) ≡ more_exprs (expr_tree (get_or es i d)) (expr_trees (drop (i + 1) es))
expr_trees-drop es i d h = rw (add-one, drop-cons es i d)

pub ruleset expr_lists = (expr_trees-drop, append_assoc, append-nil)

pub ruleset expr_appends = (expr_cases, append_assoc, append-nil)

-- for calls whose callee requires something: the cases and what shows that a part is smaller
pub ruleset expr_calls = (expr_cases, the_lemmas)

-- the same for a loop over a list
pub ruleset expr_items = (expr_lists, the_lemmas)
