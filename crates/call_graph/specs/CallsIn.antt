-- The CALLs in a list of statements, in the order of the text.
use Rattle.std.specs.Prelude.{ℕ, List, [], ◌∷◌, ◌++◌}
use Rattle.f77_ast.specs.Trees.{ExprTrees, StmtTree, WhatTree, ArmTree, ArmTrees, ElseTree, LoopTree, StmtTrees}
use Rattle.f77_ast.specs.Trees as tree

-- with the number of its statement
pub record CallAt : Type 0 where
  pub number : ℕ
  pub callee : List ℕ
  pub actuals : ExprTrees

abbrev mutual
  pub stmt_calls : StmtTree → List CallAt
  stmt_calls (tree.stmt n label w) = what_calls w n

  pub what_calls : WhatTree → ℕ → List CallAt
  what_calls (tree.assign a b) n = []
  what_calls (tree.block_if arms other) n = arms_calls arms ++ else_calls other
  what_calls (tree.logical_if e s) n = stmt_calls s
  what_calls (tree.do_loop l) n = loop_calls l
  what_calls (tree.call x es) n = record { number = n; callee = x; actuals = es } ∷ []
  what_calls (tree.goto l) n = []
  what_calls tree.continue n = []
  what_calls tree.return n = []
  what_calls (tree.stop text) n = []
  what_calls (tree.print es) n = []
  what_calls (tree.read es) n = []

  pub list_calls : StmtTrees → List CallAt
  list_calls tree.no_stmts = []
  list_calls (tree.more_stmts s rest) = stmt_calls s ++ list_calls rest

  pub arms_calls : ArmTrees → List CallAt
  arms_calls tree.no_arms = []
  arms_calls (tree.more_arms a rest) = arm_calls a ++ arms_calls rest

  pub arm_calls : ArmTree → List CallAt
  arm_calls (tree.arm e body) = list_calls body

  pub else_calls : ElseTree → List CallAt
  else_calls tree.no_else = []
  else_calls (tree.otherwise body) = list_calls body

  pub loop_calls : LoopTree → List CallAt
  loop_calls (tree.loop index first last step body) = list_calls body

-- each of a list
abbrev pub Each : {T : Type 0} → (T → Type 0) → List T → Type 0
Each P [] = Unit {0}
Each P (a ∷ as') = P a × Each P as'
