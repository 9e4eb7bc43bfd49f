-- The numbers of the statements of a list, in the order of the text.
use Rattle.std.specs.Prelude.{◌≡◌, ℕ, ◌<◌, List, [], ◌∷◌, ◌++◌, Some, slice_get}
use Rattle.f77_ast.specs.Trees.{StmtTree, WhatTree, ArmTree, ArmTrees, ElseTree, LoopTree, StmtTrees}
use Rattle.f77_ast.specs.Trees as tree

abbrev mutual
  pub stmt_numbers : StmtTree → List ℕ
  stmt_numbers (tree.stmt n label w) = n ∷ part_numbers w

  pub part_numbers : WhatTree → List ℕ
  part_numbers (tree.assign a b) = []
  part_numbers (tree.block_if arms other) = arms_numbers arms ++ else_numbers other
  part_numbers (tree.logical_if e s) = stmt_numbers s
  part_numbers (tree.do_loop l) = loop_numbers l
  part_numbers (tree.call x es) = []
  part_numbers (tree.goto l) = []
  part_numbers tree.continue = []
  part_numbers tree.return = []
  part_numbers (tree.stop text) = []
  part_numbers (tree.print es) = []
  part_numbers (tree.read es) = []

  pub list_numbers : StmtTrees → List ℕ
  list_numbers tree.no_stmts = []
  list_numbers (tree.more_stmts s rest) = stmt_numbers s ++ list_numbers rest

  pub arms_numbers : ArmTrees → List ℕ
  arms_numbers tree.no_arms = []
  arms_numbers (tree.more_arms a rest) = arm_numbers a ++ arms_numbers rest

  pub arm_numbers : ArmTree → List ℕ
  arm_numbers (tree.arm test body) = list_numbers body

  pub else_numbers : ElseTree → List ℕ
  else_numbers tree.no_else = []
  else_numbers (tree.otherwise body) = list_numbers body

  pub loop_numbers : LoopTree → List ℕ
  loop_numbers (tree.loop index first last step body) = list_numbers body

-- none comes twice
abbrev pub StandOnce : List ℕ → Type 0
StandOnce ns = (i j n : ℕ) → slice_get ns i ≡ Some n → slice_get ns j ≡ Some n → i ≡ j

-- each statement of a body has a number of its own, which is not 0, as reading gives them
pub record HasNumbers (body : StmtTrees) : Type 0 where
  pub once : StandOnce (list_numbers body)
  pub above : (i n : ℕ) → slice_get (list_numbers body) i ≡ Some n → 0 < n
