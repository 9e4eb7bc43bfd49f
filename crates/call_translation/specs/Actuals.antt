-- The actual arguments of a CALL as the caller sees them (ANSI X3.9-1978 §15.9).
use Rattle.std.specs.Prelude.{ℕ, zero, suc, ◌-◌, List, [], ◌∷◌, Option, Some, None}
use Rattle.f77_ast.specs.Trees.{ExprTree, ExprTrees}
use Rattle.f77_ast.specs.Trees as tree
use Rattle.affine_forms.specs.declared.affine.Affine.{Affine}
use Rattle.affine_forms.specs.Scalars.{Scalars}
use Rattle.affine_forms.specs.Forms.{affine_of}
use Rattle.call_translation.specs.Scopes.{ScopeTree}

-- the tracked cell that an expression names
abbrev pub named_cell : Scalars → ExprTree → Option ℕ
named_cell k (tree.int n) = None
named_cell k (tree.log b) = None
named_cell k (tree.name x) = k.cell x
named_cell k (tree.element x es) = None
named_cell k (tree.paren e) = None
named_cell k (tree.unary o e) = None
named_cell k (tree.binary o a b) = None
named_cell k (tree.chars x) = None

-- none, or one
abbrev pub one_cell : Option ℕ → List ℕ
one_cell None = []
one_cell (Some c) = c ∷ []

-- the actual at a place, from 0
abbrev pub actual_at : ExprTrees → ℕ → Option ExprTree
actual_at tree.no_exprs k = None
actual_at (tree.more_exprs e es) zero = Some e
actual_at (tree.more_exprs e es) (suc k) = actual_at es k

-- the actual of the dummy with a number, from 1
abbrev pub actual_of : ExprTrees → ℕ → Option ExprTree
actual_of es m = actual_at es (m - 1)

-- its affine form over the tracked cells of the caller; none where there is no such actual, or where it has no form
abbrev pub form_in : ScopeTree → Option ExprTree → Option Affine
form_in m None = None
form_in m (Some e) = affine_of m.scalars e

-- the tracked cell of the caller that it names; none where it is another expression
abbrev pub cell_named : ScopeTree → Option ExprTree → Option ℕ
cell_named m None = None
cell_named m (Some e) = named_cell m.scalars e
