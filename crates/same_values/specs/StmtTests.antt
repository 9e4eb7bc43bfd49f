-- Whether two statements are the same, form by form.
use Rattle.std.specs.Prelude.{ℕ, Bool, true, false, ◌&&◌, nat_eq, bytes_eq, List, Option, Some, None}
use Rattle.f77_ast.specs.Trees.{ExprTree, ExprTrees, StmtTree, stmt, WhatTree, assign, block_if, logical_if, do_loop, call, goto, continue, return, stop, print, read, ArmTree, arm, ArmTrees, no_arms, more_arms, ElseTree, no_else, otherwise, LoopTree, loop, StmtTrees, no_stmts, more_stmts}
use Rattle.same_values.specs.Tests.{test_some, expr_test, exprs_test}
use Rattle.same_values.specs.SymbolTests.{maybe_test}
use Rattle.f77_ast.specs.Shapes.{is_return}

abbrev pub number_test : Option ℕ → Option ℕ → Bool
number_test None None = true
number_test None (Some m) = false
number_test (Some n) None = false
number_test (Some n) (Some m) = nat_eq n m

abbrev pub text_test : Option (List ℕ) → Option (List ℕ) → Bool
text_test None None = true
text_test None (Some y) = false
text_test (Some x) None = false
text_test (Some x) (Some y) = bytes_eq x y

-- ---- what a statement of one form has

abbrev pub assign_in : WhatTree → Option (ExprTree × ExprTree)
assign_in (assign a b) = Some (a, b)
assign_in (block_if arms other) = None
assign_in (logical_if e s) = None
assign_in (do_loop l) = None
assign_in (call x es) = None
assign_in (goto n) = None
assign_in continue = None
assign_in return = None
assign_in (stop t) = None
assign_in (print es) = None
assign_in (read es) = None

abbrev pub block_if_in : WhatTree → Option (ArmTrees × ElseTree)
block_if_in (assign a b) = None
block_if_in (block_if arms other) = Some (arms, other)
block_if_in (logical_if e s) = None
block_if_in (do_loop l) = None
block_if_in (call x es) = None
block_if_in (goto n) = None
block_if_in continue = None
block_if_in return = None
block_if_in (stop t) = None
block_if_in (print es) = None
block_if_in (read es) = None

abbrev pub logical_if_in : WhatTree → Option (ExprTree × StmtTree)
logical_if_in (assign a b) = None
logical_if_in (block_if arms other) = None
logical_if_in (logical_if e s) = Some (e, s)
logical_if_in (do_loop l) = None
logical_if_in (call x es) = None
logical_if_in (goto n) = None
logical_if_in continue = None
logical_if_in return = None
logical_if_in (stop t) = None
logical_if_in (print es) = None
logical_if_in (read es) = None

abbrev pub do_loop_in : WhatTree → Option (LoopTree)
do_loop_in (assign a b) = None
do_loop_in (block_if arms other) = None
do_loop_in (logical_if e s) = None
do_loop_in (do_loop l) = Some l
do_loop_in (call x es) = None
do_loop_in (goto n) = None
do_loop_in continue = None
do_loop_in return = None
do_loop_in (stop t) = None
do_loop_in (print es) = None
do_loop_in (read es) = None

abbrev pub call_in : WhatTree → Option (List ℕ × ExprTrees)
call_in (assign a b) = None
call_in (block_if arms other) = None
call_in (logical_if e s) = None
call_in (do_loop l) = None
call_in (call x es) = Some (x, es)
call_in (goto n) = None
call_in continue = None
call_in return = None
call_in (stop t) = None
call_in (print es) = None
call_in (read es) = None

abbrev pub goto_in : WhatTree → Option (ℕ)
goto_in (assign a b) = None
goto_in (block_if arms other) = None
goto_in (logical_if e s) = None
goto_in (do_loop l) = None
goto_in (call x es) = None
goto_in (goto n) = Some n
goto_in continue = None
goto_in return = None
goto_in (stop t) = None
goto_in (print es) = None
goto_in (read es) = None

abbrev pub is_continue : WhatTree → Bool
is_continue (assign a b) = false
is_continue (block_if arms other) = false
is_continue (logical_if e s) = false
is_continue (do_loop l) = false
is_continue (call x es) = false
is_continue (goto n) = false
is_continue continue = true
is_continue return = false
is_continue (stop t) = false
is_continue (print es) = false
is_continue (read es) = false

abbrev pub stop_in : WhatTree → Option (Option (List ℕ))
stop_in (assign a b) = None
stop_in (block_if arms other) = None
stop_in (logical_if e s) = None
stop_in (do_loop l) = None
stop_in (call x es) = None
stop_in (goto n) = None
stop_in continue = None
stop_in return = None
stop_in (stop t) = Some t
stop_in (print es) = None
stop_in (read es) = None

abbrev pub print_in : WhatTree → Option (ExprTrees)
print_in (assign a b) = None
print_in (block_if arms other) = None
print_in (logical_if e s) = None
print_in (do_loop l) = None
print_in (call x es) = None
print_in (goto n) = None
print_in continue = None
print_in return = None
print_in (stop t) = None
print_in (print es) = Some es
print_in (read es) = None

abbrev pub read_in : WhatTree → Option (ExprTrees)
read_in (assign a b) = None
read_in (block_if arms other) = None
read_in (logical_if e s) = None
read_in (do_loop l) = None
read_in (call x es) = None
read_in (goto n) = None
read_in continue = None
read_in return = None
read_in (stop t) = None
read_in (print es) = None
read_in (read es) = Some es

abbrev mutual
  pub stmt_test : StmtTree → StmtTree → Bool
  stmt_test (stmt i l w) (stmt j k v) = nat_eq i j && number_test l k && what_test w v

  pub what_test : WhatTree → WhatTree → Bool
  what_test (assign a b) v = test_some (λ p. expr_test a p.0 && expr_test b p.1) (assign_in v)
  what_test (block_if arms other) v = test_some (λ p. arms_test arms p.0 && else_test other p.1) (block_if_in v)
  what_test (logical_if e s) v = test_some (λ p. expr_test e p.0 && stmt_test s p.1) (logical_if_in v)
  what_test (do_loop l) v = test_some (λ m. loop_test l m) (do_loop_in v)
  what_test (call x es) v = test_some (λ p. bytes_eq x p.0 && exprs_test es p.1) (call_in v)
  what_test (goto n) v = test_some (λ m. nat_eq n m) (goto_in v)
  what_test continue v = is_continue v
  what_test return v = is_return v
  what_test (stop t) v = test_some (λ u. text_test t u) (stop_in v)
  what_test (print es) v = test_some (λ ds. exprs_test es ds) (print_in v)
  what_test (read es) v = test_some (λ ds. exprs_test es ds) (read_in v)

  pub arm_test : ArmTree → ArmTree → Bool
  arm_test (arm e ss) (arm d ts) = expr_test e d && stmts_test ss ts

  pub arms_test : ArmTrees → ArmTrees → Bool
  arms_test no_arms no_arms = true
  arms_test no_arms (more_arms b bs) = false
  arms_test (more_arms a rest) no_arms = false
  arms_test (more_arms a rest) (more_arms b bs) = arm_test a b && arms_test rest bs

  pub else_test : ElseTree → ElseTree → Bool
  else_test no_else no_else = true
  else_test no_else (otherwise ts) = false
  else_test (otherwise ss) no_else = false
  else_test (otherwise ss) (otherwise ts) = stmts_test ss ts

  pub loop_test : LoopTree → LoopTree → Bool
  loop_test (loop x a b s body) (loop y c d t other) = bytes_eq x y && expr_test a c && expr_test b d && maybe_test s t && stmts_test body other

  pub stmts_test : StmtTrees → StmtTrees → Bool
  stmts_test no_stmts no_stmts = true
  stmts_test no_stmts (more_stmts t ts) = false
  stmts_test (more_stmts s rest) no_stmts = false
  stmts_test (more_stmts s rest) (more_stmts t ts) = stmt_test s t && stmts_test rest ts
