-- The plain tree of a statement and of a list of them.
use Rattle.std.specs.Prelude.{List, [], ◌∷◌, map, Option, Some, None}
use Rattle.f77_ast.specs.declared.expr.Expr.{Expr}
use Rattle.f77_ast.specs.declared.stmt.Stmt.{Stmt}
use Rattle.f77_ast.specs.declared.stmt.Arm.{Arm, Arm'}
use Rattle.f77_ast.specs.declared.stmt.Loop.{Loop, Loop'}
use Rattle.f77_ast.specs.declared.stmt.What.{What, Row_of-Stmt, end_of-Stmt, more_of-Stmt, Row_of-Arm, end_of-Arm, more_of-Arm, Held-What-If-1, None', Some'}
use Rattle.f77_ast.specs.declared.stmt.What.TheVariants.{Assign, If', LogicalIf', Do, Call, Goto, Continue, Return, Stop, Print, Read}
use Rattle.f77_ast.specs.Trees.{ExprTree, StmtTree, stmt, WhatTree, assign, block_if, logical_if, do_loop, call, goto, continue, return, stop, print, read, ArmTree, arm, ArmTrees, no_arms, more_arms, ElseTree, no_else, otherwise, LoopTree, loop, StmtTrees, no_stmts, more_stmts}
use Rattle.f77_ast.specs.Plain.{expr_tree, expr_trees}

-- an expression that may be left out
abbrev pub maybe_tree : Option Expr → Option ExprTree
maybe_tree None = None
maybe_tree (Some e) = Some (expr_tree e)

unfoldable mutual
  -- what a statement does
  pub what_tree : What → WhatTree
  what_tree (Assign a b) = assign (expr_tree a) (expr_tree b)
  what_tree (If' shape arms other) = block_if (arm_row arms) (held_tree other)
  what_tree (LogicalIf' e p id label what) = logical_if (expr_tree e) (stmt id label (what_tree what))
  what_tree (Do l) = do_loop (loop_tree l)
  what_tree (Call n es) = call n (expr_trees es)
  what_tree (Goto l) = goto l
  what_tree Continue = continue
  what_tree Return = return
  what_tree (Stop t) = stop t
  what_tree (Print es) = print (expr_trees es)
  what_tree (Read es) = read (expr_trees es)

  -- a DO with its body
  pub loop_tree : Loop → LoopTree
  loop_tree (Loop' index first last step shape row) =
      loop index (expr_tree first) (expr_tree last) (maybe_tree step) (stmt_row row)

  -- a part of a block IF
  pub arm_tree : Arm → ArmTree
  arm_tree (Arm' test shape row) = arm (expr_tree test) (stmt_row row)

  pub arm_row : {m : _} → Row_of-Arm m → ArmTrees
  arm_row end_of-Arm = no_arms
  arm_row (more_of-Arm a rest) = more_arms (arm_tree a) (arm_row rest)

  pub held_tree : Held-What-If-1 → ElseTree
  held_tree None' = no_else
  held_tree (Some' shape row) = otherwise (stmt_row row)

  pub stmt_row : {m : _} → Row_of-Stmt m → StmtTrees
  stmt_row end_of-Stmt = no_stmts
  stmt_row (more_of-Stmt id label what rest) = more_stmts (stmt id label (what_tree what)) (stmt_row rest)

-- a statement without pointers
abbrev pub stmt_tree : Stmt → StmtTree
stmt_tree s = stmt s.id s.label (what_tree s.what)

-- plain trees one after another
abbrev pub stmts_of : List StmtTree → StmtTrees
stmts_of [] = no_stmts
stmts_of (t ∷ ts) = more_stmts t (stmts_of ts)

abbrev pub arms_of : List ArmTree → ArmTrees
arms_of [] = no_arms
arms_of (t ∷ ts) = more_arms t (arms_of ts)

-- a list of statements, as a list of plain trees
abbrev pub stmt_trees : List Stmt → StmtTrees
stmt_trees ss = stmts_of (map stmt_tree ss)

-- the parts of a block IF, as a list of plain trees
abbrev pub arm_trees : List Arm → ArmTrees
arm_trees xs = arms_of (map arm_tree xs)

-- what stands below ELSE
abbrev pub else_tree : Option (List Stmt) → ElseTree
else_tree None = no_else
else_tree (Some ss) = otherwise (stmt_trees ss)
