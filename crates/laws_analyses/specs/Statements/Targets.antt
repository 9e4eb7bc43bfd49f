-- What stands on a left side, as an item of a READ, or as the index of a DO.
use Rattle.std.specs.Prelude.{ℕ, Bool, true, false, not, ◌&&◌, List}
use Rattle.f77_ast.specs.Trees.{ExprTree, ExprTrees, WhatTree, LoopTree}
use Rattle.f77_ast.specs.Trees as tree

-- a scalar, or an element with subscripts; what else stands there is a fault, or refused by reading
abbrev pub is_target : (List ℕ → Bool) → ExprTree → Bool
is_target scalar (tree.int n) = true
is_target scalar (tree.log b) = true
is_target scalar (tree.name x) = scalar x
is_target scalar (tree.element x tree.no_exprs) = false
is_target scalar (tree.element x (tree.more_exprs e es)) = true
is_target scalar (tree.paren e) = true
is_target scalar (tree.unary o e) = true
is_target scalar (tree.binary o a b) = true
is_target scalar (tree.chars x) = true

abbrev pub are_targets : (List ℕ → Bool) → ExprTrees → Bool
are_targets scalar tree.no_exprs = true
are_targets scalar (tree.more_exprs e es) = is_target scalar e && are_targets scalar es

abbrev pub has_index : (List ℕ → Bool) → LoopTree → Bool
has_index scalar (tree.loop index first last step body) = scalar index

-- the statement itself, without those that are parts of it
abbrev pub has_targets : (List ℕ → Bool) → WhatTree → Bool
has_targets scalar (tree.assign a b) = is_target scalar a
has_targets scalar (tree.block_if arms other) = true
has_targets scalar (tree.logical_if e s) = true
has_targets scalar (tree.do_loop l) = has_index scalar l
has_targets scalar (tree.call x es) = true
has_targets scalar (tree.goto l) = true
has_targets scalar tree.continue = true
has_targets scalar tree.return = true
has_targets scalar (tree.stop text) = true
has_targets scalar (tree.print es) = true
has_targets scalar (tree.read es) = are_targets scalar es

abbrev pub lacks_targets : (List ℕ → Bool) → WhatTree → Bool
lacks_targets scalar w = not (has_targets scalar w)
