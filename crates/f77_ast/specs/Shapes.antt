-- Statements by the statements inside them, and what a walk over all statements of a list computes.
use Rattle.std.specs.Prelude.{◌≡◌, ℕ, Bool, true, false, Option}
use Rattle.f77_ast.specs.declared.stmt.What.{What}
use Rattle.f77_ast.specs.declared.stmt.What.TheVariants.{If, LogicalIf', Do}
use Rattle.f77_ast.specs.declared.shape.Shape.{Shape}
use Rattle.f77_ast.specs.declared.shape.Shape.TheVariants.{Leaf, Inner, Body, Arms}
use Rattle.f77_ast.specs.Trees.{ExprTree, StmtTree, WhatTree, ArmTree, ArmTrees, ElseTree, LoopTree, StmtTrees}
use Rattle.f77_ast.specs.Trees as tree
use Rattle.f77_ast.specs.Plain.{expr_tree}
use Rattle.f77_ast.specs.PlainStmt.{stmt_tree, what_tree, loop_tree, arm_trees, else_tree}

-- ---- shapes

-- no statement inside it; the statement of a logical IF, after its test; a DO with its body; the arms of a block IF and its ELSE
pub data ShapeTree : Type 0 where
  leaf : ShapeTree
  inner : ExprTree → StmtTree → ShapeTree
  do_body : LoopTree → ShapeTree
  if_arms : ArmTrees → ElseTree → ShapeTree

abbrev pub shape_of : WhatTree → ShapeTree
shape_of (tree.assign a b) = leaf
shape_of (tree.block_if arms other) = if_arms arms other
shape_of (tree.logical_if test s) = inner test s
shape_of (tree.do_loop l) = do_body l
shape_of (tree.call x es) = leaf
shape_of (tree.goto l) = leaf
shape_of tree.continue = leaf
shape_of tree.return = leaf
shape_of (tree.stop text) = leaf
shape_of (tree.print es) = leaf
shape_of (tree.read es) = leaf

-- there is no statement inside it
abbrev pub IsLeaf : WhatTree → Type 0
IsLeaf w = shape_of w ≡ leaf

abbrev pub shape_tree : Shape → ShapeTree
shape_tree Leaf = leaf
shape_tree (Inner test s) = inner (expr_tree test.now) (stmt_tree s.now)
shape_tree (Body l) = do_body (loop_tree l.now)
shape_tree (Arms arms other) = if_arms (arm_trees arms.now) (else_tree other.now)

-- the parts are those of the statement itself, and so less deep
abbrev pub IsWithin : Shape → What → Type 0
IsWithin Leaf w = IsLeaf (what_tree w)
IsWithin (Inner test s) w = (p : _) × (w ≡ LogicalIf' test.now p s.now.id s.now.label s.now.what)
IsWithin (Body l) w = w ≡ Do l.now
IsWithin (Arms arms other) w = w ≡ If arms.now other.now

-- ---- walks

-- what a walk makes of a statement, given its number, its label and what it made of the statements inside; of an arm, given what it
-- made of its statements and of the arms after it with the ELSE; and of a list, given what it made of a statement and of the rest
pub record Walk (R : Type 0) : Type 0 where
  pub of_leaf : ℕ → Option ℕ → WhatTree → R
  pub of_inner : ℕ → Option ℕ → ExprTree → R → R
  pub of_body : ℕ → Option ℕ → LoopTree → R → R
  pub of_arms : ℕ → Option ℕ → R → R → R
  pub of_arm : ExprTree → R → R → R
  pub of_no_arms : R
  pub of_else : R → R
  pub of_no_else : R
  pub of_more : R → R → R
  pub of_end : R

abbrev mutual
  pub walk_stmt : {R : Type 0} → Walk R → StmtTree → R
  walk_stmt f (tree.stmt n label w) = walk_what f n label w

  pub walk_what : {R : Type 0} → Walk R → ℕ → Option ℕ → WhatTree → R
  walk_what f n label (tree.assign a b) = f.of_leaf n label (tree.assign a b)
  walk_what f n label (tree.block_if arms other) = f.of_arms n label (walk_arms f arms) (walk_else f other)
  walk_what f n label (tree.logical_if test s) = f.of_inner n label test (walk_stmt f s)
  walk_what f n label (tree.do_loop l) = f.of_body n label l (walk_body f l)
  walk_what f n label (tree.call x es) = f.of_leaf n label (tree.call x es)
  walk_what f n label (tree.goto l) = f.of_leaf n label (tree.goto l)
  walk_what f n label tree.continue = f.of_leaf n label tree.continue
  walk_what f n label tree.return = f.of_leaf n label tree.return
  walk_what f n label (tree.stop text) = f.of_leaf n label (tree.stop text)
  walk_what f n label (tree.print es) = f.of_leaf n label (tree.print es)
  walk_what f n label (tree.read es) = f.of_leaf n label (tree.read es)

  pub walk_body : {R : Type 0} → Walk R → LoopTree → R
  walk_body f (tree.loop index first last step body) = walk_list f body

  pub walk_arms : {R : Type 0} → Walk R → ArmTrees → R
  walk_arms f tree.no_arms = f.of_no_arms
  walk_arms f (tree.more_arms a rest) = walk_arm f a (walk_arms f rest)

  pub walk_arm : {R : Type 0} → Walk R → ArmTree → R → R
  walk_arm f (tree.arm test body) rest = f.of_arm test (walk_list f body) rest

  pub walk_else : {R : Type 0} → Walk R → ElseTree → R
  walk_else f tree.no_else = f.of_no_else
  walk_else f (tree.otherwise body) = f.of_else (walk_list f body)

  pub walk_list : {R : Type 0} → Walk R → StmtTrees → R
  walk_list f tree.no_stmts = f.of_end
  walk_list f (tree.more_stmts s rest) = f.of_more (walk_stmt f s) (walk_list f rest)

abbrev pub is_return : WhatTree → Bool
is_return (tree.assign a b) = false
is_return (tree.block_if arms other) = false
is_return (tree.logical_if test s) = false
is_return (tree.do_loop l) = false
is_return (tree.call x es) = false
is_return (tree.goto l) = false
is_return tree.continue = false
is_return tree.return = true
is_return (tree.stop text) = false
is_return (tree.print es) = false
is_return (tree.read es) = false
