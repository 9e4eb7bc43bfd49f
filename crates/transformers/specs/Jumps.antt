-- Lists of statements that do not run from the first to the last.
use Rattle.std.specs.Prelude.{ℕ, Bool, true, false, not, ◌&&◌, ◌||◌, List, [], ◌∷◌, Option, Some, None}
use Rattle.f77_ast.specs.Trees.{StmtTree, WhatTree, ArmTree, ArmTrees, ElseTree, LoopTree, StmtTrees}
use Rattle.f77_ast.specs.Trees as tree
use Rattle.call_translation.specs.transformer_algebra.Cells.{has}
use Rattle.transformers.specs.declared.jumps.Sought.{Sought}
use Rattle.transformers.specs.declared.jumps.Sought.TheVariants.{Jump, Beyond, Return}
use Rattle.f77_ast.specs.Shapes.{is_return}

-- ---- a statement among others

abbrev mutual
  -- a statement, or one that is a part of it, is such
  pub stmt_has : (WhatTree → Bool) → StmtTree → Bool
  stmt_has such (tree.stmt n label w) = such w || parts_have such w

  pub parts_have : (WhatTree → Bool) → WhatTree → Bool
  parts_have such (tree.assign a b) = false
  parts_have such (tree.block_if arms other) = arms_have such arms || else_has such other
  parts_have such (tree.logical_if test s) = stmt_has such s
  parts_have such (tree.do_loop l) = loop_has such l
  parts_have such (tree.call x es) = false
  parts_have such (tree.goto l) = false
  parts_have such tree.continue = false
  parts_have such tree.return = false
  parts_have such (tree.stop text) = false
  parts_have such (tree.print es) = false
  parts_have such (tree.read es) = false

  pub list_has : (WhatTree → Bool) → StmtTrees → Bool
  list_has such tree.no_stmts = false
  list_has such (tree.more_stmts s rest) = stmt_has such s || list_has such rest

  pub arms_have : (WhatTree → Bool) → ArmTrees → Bool
  arms_have such tree.no_arms = false
  arms_have such (tree.more_arms a rest) = arm_has such a || arms_have such rest

  pub arm_has : (WhatTree → Bool) → ArmTree → Bool
  arm_has such (tree.arm test body) = list_has such body

  pub else_has : (WhatTree → Bool) → ElseTree → Bool
  else_has such tree.no_else = false
  else_has such (tree.otherwise body) = list_has such body

  pub loop_has : (WhatTree → Bool) → LoopTree → Bool
  loop_has such (tree.loop index first last step body) = list_has such body

-- ---- GO TO (ANSI X3.9-1978 §11.1)

abbrev pub label_of : StmtTree → Option ℕ
label_of (tree.stmt n label w) = label

abbrev pub before_labels : Option ℕ → List ℕ → List ℕ
before_labels None ls = ls
before_labels (Some l) ls = l ∷ ls

-- the labels of the statements directly in a list
abbrev pub labels : StmtTrees → List ℕ
labels tree.no_stmts = []
labels (tree.more_stmts s rest) = before_labels (label_of s) (labels rest)

-- a GO TO one of these
abbrev pub goes_to : List ℕ → WhatTree → Bool
goes_to ls (tree.assign a b) = false
goes_to ls (tree.block_if arms other) = false
goes_to ls (tree.logical_if test s) = false
goes_to ls (tree.do_loop l) = false
goes_to ls (tree.call x es) = false
goes_to ls (tree.goto l) = has ls l
goes_to ls tree.continue = false
goes_to ls tree.return = false
goes_to ls (tree.stop text) = false
goes_to ls (tree.print es) = false
goes_to ls (tree.read es) = false

-- a GO TO none of these
abbrev pub goes_beyond : List ℕ → WhatTree → Bool
goes_beyond ls (tree.assign a b) = false
goes_beyond ls (tree.block_if arms other) = false
goes_beyond ls (tree.logical_if test s) = false
goes_beyond ls (tree.do_loop l) = false
goes_beyond ls (tree.call x es) = false
goes_beyond ls (tree.goto l) = not (has ls l)
goes_beyond ls tree.continue = false
goes_beyond ls tree.return = false
goes_beyond ls (tree.stop text) = false
goes_beyond ls (tree.print es) = false
goes_beyond ls (tree.read es) = false

-- ---- RETURN (§15.8)

-- what the code looks for
abbrev pub such_of : Sought → WhatTree → Bool
such_of (Jump ls) w = goes_to ls.now w
such_of (Beyond ls) w = goes_beyond ls.now w
such_of Return w = is_return w

abbrev pub is_end : StmtTrees → Bool
is_end tree.no_stmts = true
is_end (tree.more_stmts s rest) = false

-- a RETURN is a part of it, or it is one and not the last of its list
abbrev pub returns_early : Bool → StmtTree → Bool
returns_early last (tree.stmt n label w) = parts_have is_return w || (is_return w && not last)

-- there is a RETURN, and it is not the last statement of the list
abbrev pub early_return : StmtTrees → Bool
early_return tree.no_stmts = false
early_return (tree.more_stmts s rest) = returns_early (is_end rest) s || early_return rest

-- ---- lists

-- a GO TO in it leads to a statement directly in it; or it is the whole body of a module and has an early RETURN
abbrev pub unstructured : Bool → StmtTrees → Bool
unstructured whole body = list_has (goes_to (labels body)) body || (whole && early_return body)
