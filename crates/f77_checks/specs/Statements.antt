-- The types of executable statements (ANSI X3.9-1978 §10, §11, §12).
use Rattle.std.specs.Prelude.{ℕ, ◌+◌, true, not, List, Option, Some, None}
use Rattle.f77_ast.specs.Trees.{ExprTree, ExprTrees, StmtTree, WhatTree, ArmTree, ArmTrees, ElseTree, LoopTree, StmtTrees}
use Rattle.f77_ast.specs.Trees as tree
use Rattle.fx_lists.specs.declared.code.Code.TheVariants.{TypeMismatch, AssignToConstant}
use Rattle.fx_lists.specs.declared.refusal.Refusal.{Refusal}
use Rattle.f77_names.specs.declared.functions.Function.{Function}
use Rattle.f77_names.specs.declared.lines.Sited.TheVariants.{Statement, ElseIf}
use Rattle.fx_lists.specs.Refusals.{refuse_if}
use Rattle.f77_names.specs.Lines.{LineTable, line_or}
use Rattle.f77_names.specs.Functions.{function_of}
use Rattle.f77_names.specs.Entries.{is_parameter}
use Rattle.f77_names.specs.Tables.{NameTable}
use Rattle.f77_checks.specs.declared.sort.Sort.{Sort}
use Rattle.f77_checks.specs.declared.sort.Sort.TheVariants.{Unknown}
use Rattle.f77_checks.specs.Expressions.{sort_of, is_chars, fits, check_name, check_expr, check_subscripts, wants_int, check_int, check_log}

-- ---- what is written to

abbrev pub unknown_or : Option Function → Sort → Sort
unknown_or None s = s
unknown_or (Some f) s = Unknown

-- nothing is asked of the type of a function that is written to
abbrev pub target_sort : NameTable → ExprTree → Sort
target_sort t (tree.name x) = unknown_or (function_of t.arrays x) (sort_of t (tree.name x))
target_sort t (tree.element x es) = unknown_or (function_of t.arrays x) (sort_of t (tree.element x es))
target_sort t (tree.int n) = sort_of t (tree.int n)
target_sort t (tree.log b) = sort_of t (tree.log b)
target_sort t (tree.paren e) = sort_of t (tree.paren e)
target_sort t (tree.unary o e) = sort_of t (tree.unary o e)
target_sort t (tree.binary o a b) = sort_of t (tree.binary o a b)
target_sort t (tree.chars x) = sort_of t (tree.chars x)

abbrev pub name_written : Option Function → NameTable → List ℕ → ℕ → Option Refusal → Option Refusal
name_written (Some f) t x line found = refuse_if true line AssignToConstant found
name_written None t x line found = check_name t x line (refuse_if (is_parameter x t.entries) line AssignToConstant found)

abbrev pub element_written : Option Function → NameTable → List ℕ → ExprTrees → ℕ → Option Refusal → Option Refusal
element_written (Some f) t x es line found = check_subscripts t es line (refuse_if true line AssignToConstant found)
element_written None t x es line found = check_expr t (tree.element x es) line (refuse_if (is_parameter x t.entries) line AssignToConstant found)

-- a left side, an item of READ or a DO variable is no function and no PARAMETER
abbrev pub check_target : NameTable → ExprTree → ℕ → Option Refusal → Option Refusal
check_target t (tree.name x) line found = name_written (function_of t.arrays x) t x line found
check_target t (tree.element x es) line found = element_written (function_of t.arrays x) t x es line found
check_target t (tree.int n) line found = check_expr t (tree.int n) line found
check_target t (tree.log b) line found = check_expr t (tree.log b) line found
check_target t (tree.paren e) line found = check_expr t (tree.paren e) line found
check_target t (tree.unary o e) line found = check_expr t (tree.unary o e) line found
check_target t (tree.binary o a b) line found = check_expr t (tree.binary o a b) line found
check_target t (tree.chars x) line found = check_expr t (tree.chars x) line found

abbrev pub check_targets : NameTable → ExprTrees → ℕ → Option Refusal → Option Refusal
check_targets t tree.no_exprs line found = found
check_targets t (tree.more_exprs e es) line found = check_targets t es line (check_target t e line found)

-- ---- actual arguments and items of PRINT

-- an array may stand whole as an actual argument
abbrev pub bare_actual : Option Function → NameTable → List ℕ → ℕ → Option Refusal → Option Refusal
bare_actual None t x line found = found
bare_actual (Some f) t x line found = check_name t x line found

abbrev pub check_actual : NameTable → ExprTree → ℕ → Option Refusal → Option Refusal
check_actual t (tree.name x) line found = bare_actual (function_of t.arrays x) t x line found
check_actual t (tree.int n) line found = check_expr t (tree.int n) line found
check_actual t (tree.log b) line found = check_expr t (tree.log b) line found
check_actual t (tree.element x es) line found = check_expr t (tree.element x es) line found
check_actual t (tree.paren e) line found = check_expr t (tree.paren e) line found
check_actual t (tree.unary o e) line found = check_expr t (tree.unary o e) line found
check_actual t (tree.binary o a b) line found = check_expr t (tree.binary o a b) line found
check_actual t (tree.chars x) line found = check_expr t (tree.chars x) line found

abbrev pub no_chars : Sort → ℕ → Option Refusal → Option Refusal
no_chars s line found = refuse_if (is_chars s) line TypeMismatch found

abbrev pub check_actuals : NameTable → ExprTrees → ℕ → Option Refusal → Option Refusal
check_actuals t tree.no_exprs line found = found
check_actuals t (tree.more_exprs e es) line found = check_actuals t es line (no_chars (sort_of t e) line (check_actual t e line found))

-- characters alone are an item
abbrev pub check_item : NameTable → ExprTree → ℕ → Option Refusal → Option Refusal
check_item t (tree.chars x) line found = found
check_item t (tree.int n) line found = check_expr t (tree.int n) line found
check_item t (tree.log b) line found = check_expr t (tree.log b) line found
check_item t (tree.name x) line found = check_expr t (tree.name x) line found
check_item t (tree.element x es) line found = check_expr t (tree.element x es) line found
check_item t (tree.paren e) line found = no_chars (sort_of t e) line (check_expr t (tree.paren e) line found)
check_item t (tree.unary o e) line found = check_expr t (tree.unary o e) line found
check_item t (tree.binary o a b) line found = check_expr t (tree.binary o a b) line found

abbrev pub check_items : NameTable → ExprTrees → ℕ → Option Refusal → Option Refusal
check_items t tree.no_exprs line found = found
check_items t (tree.more_exprs e es) line found = check_items t es line (check_item t e line found)

-- ---- statements

-- both sides have one type
abbrev pub check_assignment : NameTable → ExprTree → ExprTree → ℕ → Option Refusal → Option Refusal
check_assignment t left right line found =
    refuse_if (not (fits (target_sort t left) (sort_of t right))) line TypeMismatch (check_expr t right line (check_target t left line found))

abbrev pub check_step : NameTable → Option ExprTree → ℕ → Option Refusal → Option Refusal
check_step t None line found = found
check_step t (Some e) line found = check_int t e line found

abbrev mutual
  -- a statement within one at this line
  pub check_stmt : NameTable → LineTable → StmtTree → ℕ → Option Refusal → Option Refusal
  check_stmt t at (tree.stmt id label what) line found = check_what t at what id (line_or at (Statement id) line) found

  pub check_what : NameTable → LineTable → WhatTree → ℕ → ℕ → Option Refusal → Option Refusal
  check_what t at (tree.assign left right) id line found = check_assignment t left right line found
  check_what t at (tree.block_if arms other) id line found = check_else t at other line (check_arms t at arms id 0 line found)
  check_what t at (tree.logical_if e s) id line found = check_stmt t at s line (check_log t e line found)
  check_what t at (tree.do_loop l) id line found = check_loop t at l line found
  check_what t at (tree.call x es) id line found = check_actuals t es line found
  check_what t at (tree.goto l) id line found = found
  check_what t at tree.continue id line found = found
  check_what t at tree.return id line found = found
  check_what t at (tree.stop text) id line found = found
  check_what t at (tree.print es) id line found = check_items t es line found
  check_what t at (tree.read es) id line found = check_targets t es line found

  pub check_arm : NameTable → LineTable → ArmTree → ℕ → Option Refusal → Option Refusal
  check_arm t at (tree.arm test body) line found = check_stmts t at body line (check_log t test line found)

  -- the parts of a block IF from number n on
  pub check_arms : NameTable → LineTable → ArmTrees → ℕ → ℕ → ℕ → Option Refusal → Option Refusal
  check_arms t at tree.no_arms id n line found = found
  check_arms t at (tree.more_arms a rest) id n line found = check_arms t at rest id (n + 1) line (check_arm t at a (line_or at (ElseIf id n) line) found)

  pub check_else : NameTable → LineTable → ElseTree → ℕ → Option Refusal → Option Refusal
  check_else t at tree.no_else line found = found
  check_else t at (tree.otherwise ss) line found = check_stmts t at ss line found

  pub check_loop : NameTable → LineTable → LoopTree → ℕ → Option Refusal → Option Refusal
  check_loop t at (tree.loop index first last step body) line found =
      let v = wants_int (target_sort t (tree.name index)) line (check_target t (tree.name index) line found) in
      check_stmts t at body line (check_step t step line (check_int t last line (check_int t first line v)))

  pub check_stmts : NameTable → LineTable → StmtTrees → ℕ → Option Refusal → Option Refusal
  check_stmts t at tree.no_stmts line found = found
  check_stmts t at (tree.more_stmts s ss) line found = check_stmts t at ss line (check_stmt t at s line found)
