-- GO TOs that lead out of a statement, or of a list: the label that they name is none in it, at whatever depth (ANSI X3.9-1978 §3.4, §11.1: a label is that of
-- one statement, and none leads into the range of a DO, or into a block of an IF).
use Rattle.std.specs.Prelude.{◌≡◌, ℕ, Bool, true, false, [], ◌∷◌}
use Rattle.f77_ast.specs.Trees.{StmtTree, WhatTree, ArmTree, ArmTrees, ElseTree, LoopTree, StmtTrees}
use Rattle.f77_ast.specs.Trees as tree
use Rattle.preconditions.specs.transformer_algebra.Cells.{has}
use Rattle.preconditions.specs.transformers.Jumps.{unstructured}
use Rattle.loop_marker.specs.out_regions.Leaving.{stmt_labels, list_labels}
use Rattle.laws_analyses.specs.Statements.Leads.{stmt_leads, each_leads}

-- of each statement of a list, and of what is behind it
abbrev pub EachOutward : StmtTrees → Type 0
EachOutward tree.no_stmts = Unit {0}
EachOutward (tree.more_stmts s rest) =
    ((l : ℕ) → stmt_leads s (l ∷ []) ≡ true → has (stmt_labels s) l ≡ false) × ((l : ℕ) → each_leads rest (l ∷ []) ≡ true → has (list_labels rest) l ≡ false) × EachOutward rest

-- of a list that is executed in its order
abbrev pub IsOutward : Bool → StmtTrees → Type 0
IsOutward whole ss = unstructured whole ss ≡ false → EachOutward ss

abbrev mutual
  -- and of the lists in it
  pub PartsOutward : WhatTree → Type 0
  PartsOutward (tree.assign a b) = Unit {0}
  PartsOutward (tree.block_if arms other) = ArmsOutward arms × ElseOutward other
  PartsOutward (tree.logical_if e s) = StmtOutward s
  PartsOutward (tree.do_loop l) = LoopOutward l
  PartsOutward (tree.call x es) = Unit {0}
  PartsOutward (tree.goto l) = Unit {0}
  PartsOutward tree.continue = Unit {0}
  PartsOutward tree.return = Unit {0}
  PartsOutward (tree.stop text) = Unit {0}
  PartsOutward (tree.print es) = Unit {0}
  PartsOutward (tree.read es) = Unit {0}

  pub StmtOutward : StmtTree → Type 0
  StmtOutward (tree.stmt n label w) = PartsOutward w

  pub StmtsOutward : StmtTrees → Type 0
  StmtsOutward tree.no_stmts = Unit {0}
  StmtsOutward (tree.more_stmts s rest) = StmtOutward s × StmtsOutward rest

  pub ArmsOutward : ArmTrees → Type 0
  ArmsOutward tree.no_arms = Unit {0}
  ArmsOutward (tree.more_arms a rest) = ArmOutward a × ArmsOutward rest

  pub ArmOutward : ArmTree → Type 0
  ArmOutward (tree.arm e body) = IsOutward false body × StmtsOutward body

  pub ElseOutward : ElseTree → Type 0
  ElseOutward tree.no_else = Unit {0}
  ElseOutward (tree.otherwise body) = IsOutward false body × StmtsOutward body

  pub LoopOutward : LoopTree → Type 0
  LoopOutward (tree.loop index first last step body) = IsOutward false body × StmtsOutward body
