-- Lists that may be left before their end, so that what their statements write need not be written.
use Rattle.std.specs.Prelude.{ℕ, Bool, true, ◌||◌, List, [], ◌++◌, if◌then◌else◌}
use Rattle.f77_ast.specs.Trees.{StmtTree, WhatTree, ArmTree, ArmTrees, ElseTree, LoopTree, StmtTrees}
use Rattle.f77_ast.specs.Trees as tree
use Rattle.in_out_regions.specs.transformers.Jumps.{list_has, stmt_has, goes_beyond, returns_early, early_return, before_labels}
use Rattle.f77_ast.specs.Shapes.{is_return}

abbrev mutual
  -- the labels of a statement and its parts
  pub stmt_labels : StmtTree → List ℕ
  stmt_labels (tree.stmt n label w) = before_labels label (what_labels w)

  pub what_labels : WhatTree → List ℕ
  what_labels (tree.assign a b) = []
  what_labels (tree.block_if arms other) = arms_labels arms ++ else_labels other
  what_labels (tree.logical_if test s) = stmt_labels s
  what_labels (tree.do_loop l) = loop_labels l
  what_labels (tree.call x es) = []
  what_labels (tree.goto l) = []
  what_labels tree.continue = []
  what_labels tree.return = []
  what_labels (tree.stop text) = []
  what_labels (tree.print es) = []
  what_labels (tree.read es) = []

  pub list_labels : StmtTrees → List ℕ
  list_labels tree.no_stmts = []
  list_labels (tree.more_stmts s rest) = stmt_labels s ++ list_labels rest

  pub arms_labels : ArmTrees → List ℕ
  arms_labels tree.no_arms = []
  arms_labels (tree.more_arms a rest) = arm_labels a ++ arms_labels rest

  pub arm_labels : ArmTree → List ℕ
  arm_labels (tree.arm test body) = list_labels body

  pub else_labels : ElseTree → List ℕ
  else_labels tree.no_else = []
  else_labels (tree.otherwise body) = list_labels body

  pub loop_labels : LoopTree → List ℕ
  loop_labels (tree.loop index first last step body) = list_labels body

-- a RETURN (§15.8) that is not the last statement of the body of a module; `whole` says that the list is the end of that
abbrev pub returns : Bool → StmtTrees → Bool
returns whole list = if whole then early_return list else list_has is_return list

-- a GO TO leads out of the list, or a RETURN ends it
abbrev pub leaves : Bool → StmtTrees → Bool
leaves whole list = list_has (goes_beyond (list_labels list)) list || returns whole list

-- the same of a list of one statement
abbrev pub stmt_leaves : Bool → StmtTree → Bool
stmt_leaves whole s = stmt_has (goes_beyond (stmt_labels s)) s || (if whole then returns_early true s else stmt_has is_return s)
