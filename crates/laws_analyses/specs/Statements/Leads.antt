-- GO TOs that lead out of a statement, or of a list (ANSI X3.9-1978 §11.1).
use Rattle.std.specs.Prelude.{◌≡◌, ℕ, Bool, false, ◌||◌, List}
use Rattle.f77_ast.specs.Trees.{StmtTree, WhatTree, ArmTree, ArmTrees, ElseTree, LoopTree, StmtTrees}
use Rattle.f77_ast.specs.Trees as tree
use Rattle.preconditions.specs.transformer_algebra.Cells.{has, others}
use Rattle.preconditions.specs.transformers.Jumps.{labels}

abbrev mutual
  -- a GO TO one of these labels is in the statement, and no list in it, around the GO TO, has the label
  pub stmt_leads : StmtTree → List ℕ → Bool
  stmt_leads (tree.stmt n label w) ls = what_leads w ls

  pub what_leads : WhatTree → List ℕ → Bool
  what_leads (tree.assign a b) ls = false
  what_leads (tree.block_if arms other) ls = arms_lead arms ls || else_leads other ls
  what_leads (tree.logical_if test s) ls = stmt_leads s ls
  what_leads (tree.do_loop l) ls = loop_leads l ls
  what_leads (tree.call x es) ls = false
  what_leads (tree.goto l) ls = has ls l
  what_leads tree.continue ls = false
  what_leads tree.return ls = false
  what_leads (tree.stop text) ls = false
  what_leads (tree.print es) ls = false
  what_leads (tree.read es) ls = false

  -- of the statements of a list, whatever labels the list has
  pub each_leads : StmtTrees → List ℕ → Bool
  each_leads tree.no_stmts ls = false
  each_leads (tree.more_stmts s rest) ls = stmt_leads s ls || each_leads rest ls

  pub arms_lead : ArmTrees → List ℕ → Bool
  arms_lead tree.no_arms ls = false
  arms_lead (tree.more_arms a rest) ls = arm_leads a ls || arms_lead rest ls

  pub arm_leads : ArmTree → List ℕ → Bool
  arm_leads (tree.arm test body) ls = each_leads body (others ls (labels body))

  pub else_leads : ElseTree → List ℕ → Bool
  else_leads tree.no_else ls = false
  else_leads (tree.otherwise body) ls = each_leads body (others ls (labels body))

  pub loop_leads : LoopTree → List ℕ → Bool
  loop_leads (tree.loop index first last step body) ls = each_leads body (others ls (labels body))

-- out of a list: to none of its labels
abbrev pub list_leads : StmtTrees → List ℕ → Bool
list_leads body ls = each_leads body (others ls (labels body))

-- every GO TO in a list leads to a label of a list around it, as reading makes it
abbrev pub StaysIn : StmtTrees → Type 0
StaysIn body = (ls : List ℕ) → list_leads body ls ≡ false
