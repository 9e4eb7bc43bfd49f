-- A refusal that was met in an expression or a statement stays: where none is left, none was before.
use Rattle.std.proofs.Common.{◌≡◌, ℕ, suc, ◌+◌, Bool, true, false, not, List, Option, Some, None, refl}
use Rattle.std.specs.Prelude.{nat_eq, if◌then◌else◌}
use Rattle.f77_ast.specs.Trees.{ExprTree, ExprTrees, StmtTree, WhatTree, ArmTree, ArmTrees, ElseTree, LoopTree, StmtTrees}
use Rattle.f77_ast.specs.Trees as tree
use Rattle.f77_ast.specs.Constants.{turns_logical, joins_logical}
use Rattle.fx_lists.specs.declared.code.Code.{Code}
use Rattle.fx_lists.specs.declared.code.Code.TheVariants.{SubscriptCount, TypeMismatch, NotAnArray, AssignToConstant}
use Rattle.fx_lists.specs.declared.refusal.Refusal.{Refusal}
use Rattle.f77_names.specs.declared.functions.Function.{Function}
use Rattle.f77_names.specs.declared.lines.Sited.TheVariants.{Statement, ElseIf}
use Rattle.fx_lists.specs.Refusals.{refuse_if}
use Rattle.f77_names.specs.Lines.{LineTable, line_or}
use Rattle.f77_names.specs.Functions.{function_of, takes}
use Rattle.f77_names.specs.Entries.{has_shape, is_parameter}
use Rattle.f77_names.specs.Tables.{NameTable}
use Rattle.f77_checks.specs.declared.sort.Sort.{Sort}
use Rattle.f77_checks.specs.Expressions.{sort_of, is_int, is_log, is_chars, fits, count, check_bare, check_name, dimensions_of, check_call, check_count, wants_int, wants_log, wants, check_expr, check_subscripts, check_int, check_log}
use Rattle.f77_checks.specs.Statements.{target_sort, name_written, element_written, check_target, check_targets, bare_actual, check_actual, no_chars, check_actuals, check_item, check_items, check_assignment, check_step, check_stmt, check_what, check_arm, check_arms, check_else, check_loop, check_stmts}
use Rattle.fx_lists.proofs.Refused.{none_refused}

pub noted_back : (b : Bool) (line : ℕ) (c : Code) (o : Option Refusal) → refuse_if b line c o ≡ None → o ≡ None
noted_back b line c o e = (none_refused b line c o e).1

-- ---- expressions

bare_back : (f : Option Function) (array : Bool) (line : ℕ) (o : Option Refusal) → check_bare f array line o ≡ None → o ≡ None
bare_back None array line o e = noted_back array line NotAnArray o e
bare_back (Some f) array line o e = noted_back true line SubscriptCount o e

call_back : (f : Option Function) (n line : ℕ) (o : Option Refusal) → check_call f n line o ≡ None → o ≡ None
call_back None n line o e = noted_back true line NotAnArray o e
call_back (Some f) n line o e = noted_back (not (takes f n)) line SubscriptCount o e

pub counted_back : (m : Option ℕ) (f : Option Function) (n line : ℕ) (o : Option Refusal) → check_count m f n line o ≡ None → o ≡ None
counted_back None f n line o e = call_back f n line o e
counted_back (Some m) f n line o e = noted_back (not (nat_eq n m)) line SubscriptCount o e

pub wants_back : (b : Bool) (s : Sort) (line : ℕ) (o : Option Refusal) → wants b s line o ≡ None → o ≡ None
wants_back true s line o e = noted_back (not (is_log s)) line TypeMismatch o e
wants_back false s line o e = noted_back (not (is_int s)) line TypeMismatch o e

pub int_back : (s : Sort) (line : ℕ) (o : Option Refusal) → wants_int s line o ≡ None → o ≡ None
int_back s line o e = noted_back (not (is_int s)) line TypeMismatch o e

mutual
  pub expr_back : (t : NameTable) (x : ExprTree) (line : ℕ) (o : Option Refusal) → check_expr t x line o ≡ None → o ≡ None
  expr_back t (tree.int n) line o e = e
  expr_back t (tree.log b) line o e = e
  expr_back t (tree.name x) line o e = bare_back (function_of t.arrays x) (has_shape x t.entries) line o e
  expr_back t (tree.element x es) line o e = subscripts_back t es line o (counted_back (dimensions_of t x) (function_of t.arrays x) (count es) line (check_subscripts t es line o) e)
  expr_back t (tree.paren x) line o e = expr_back t x line o e
  expr_back t (tree.unary u x) line o e = expr_back t x line o (wants_back (turns_logical u) (sort_of t x) line (check_expr t x line o) e)
  expr_back t (tree.binary u a b) line o e =
      expr_back t a line o (wants_back (joins_logical u) (sort_of t a) line (check_expr t a line o)
      (expr_back t b line (wants (joins_logical u) (sort_of t a) line (check_expr t a line o)) (wants_back (joins_logical u) (sort_of t b) line (check_expr t b line (wants (joins_logical u) (sort_of t a) line (check_expr t a line o))) e)))
  expr_back t (tree.chars x) line o e = e

  pub subscripts_back : (t : NameTable) (es : ExprTrees) (line : ℕ) (o : Option Refusal) → check_subscripts t es line o ≡ None → o ≡ None
  subscripts_back t tree.no_exprs line o e = e
  subscripts_back t (tree.more_exprs x es) line o e = expr_back t x line o (int_back (sort_of t x) line (check_expr t x line o) (subscripts_back t es line (wants_int (sort_of t x) line (check_expr t x line o)) e))

pub int_expr_back : (t : NameTable) (x : ExprTree) (line : ℕ) (o : Option Refusal) → check_int t x line o ≡ None → o ≡ None
int_expr_back t x line o e = expr_back t x line o (int_back (sort_of t x) line (check_expr t x line o) e)

pub log_expr_back : (t : NameTable) (x : ExprTree) (line : ℕ) (o : Option Refusal) → check_log t x line o ≡ None → o ≡ None
log_expr_back t x line o e = expr_back t x line o (noted_back (not (is_log (sort_of t x))) line TypeMismatch (check_expr t x line o) e)

-- ---- what is written to, actuals, items

name_written_back : (f : Option Function) (t : NameTable) (x : List ℕ) (line : ℕ) (o : Option Refusal) → name_written f t x line o ≡ None → o ≡ None
name_written_back (Some f) t x line o e = noted_back true line AssignToConstant o e
name_written_back None t x line o e = noted_back (is_parameter x t.entries) line AssignToConstant o (bare_back (function_of t.arrays x) (has_shape x t.entries) line (refuse_if (is_parameter x t.entries) line AssignToConstant o) e)

element_written_back : (f : Option Function) (t : NameTable) (x : List ℕ) (es : ExprTrees) (line : ℕ) (o : Option Refusal) → element_written f t x es line o ≡ None → o ≡ None
element_written_back (Some f) t x es line o e = noted_back true line AssignToConstant o (subscripts_back t es line (refuse_if true line AssignToConstant o) e)
element_written_back None t x es line o e = noted_back (is_parameter x t.entries) line AssignToConstant o (expr_back t (tree.element x es) line (refuse_if (is_parameter x t.entries) line AssignToConstant o) e)

pub target_back : (t : NameTable) (x : ExprTree) (line : ℕ) (o : Option Refusal) → check_target t x line o ≡ None → o ≡ None
target_back t (tree.name x) line o e = name_written_back (function_of t.arrays x) t x line o e
target_back t (tree.element x es) line o e = element_written_back (function_of t.arrays x) t x es line o e
target_back t (tree.int n) line o e = e
target_back t (tree.log b) line o e = e
target_back t (tree.paren x) line o e = expr_back t (tree.paren x) line o e
target_back t (tree.unary u x) line o e = expr_back t (tree.unary u x) line o e
target_back t (tree.binary u a b) line o e = expr_back t (tree.binary u a b) line o e
target_back t (tree.chars x) line o e = e

pub targets_back : (t : NameTable) (es : ExprTrees) (line : ℕ) (o : Option Refusal) → check_targets t es line o ≡ None → o ≡ None
targets_back t tree.no_exprs line o e = e
targets_back t (tree.more_exprs x es) line o e = target_back t x line o (targets_back t es line (check_target t x line o) e)

bare_actual_back : (f : Option Function) (t : NameTable) (x : List ℕ) (line : ℕ) (o : Option Refusal) → bare_actual f t x line o ≡ None → o ≡ None
bare_actual_back None t x line o e = e
bare_actual_back (Some f) t x line o e = bare_back (function_of t.arrays x) (has_shape x t.entries) line o e

pub actual_back : (t : NameTable) (x : ExprTree) (line : ℕ) (o : Option Refusal) → check_actual t x line o ≡ None → o ≡ None
actual_back t (tree.name x) line o e = bare_actual_back (function_of t.arrays x) t x line o e
actual_back t (tree.int n) line o e = e
actual_back t (tree.log b) line o e = e
actual_back t (tree.element x es) line o e = expr_back t (tree.element x es) line o e
actual_back t (tree.paren x) line o e = expr_back t (tree.paren x) line o e
actual_back t (tree.unary u x) line o e = expr_back t (tree.unary u x) line o e
actual_back t (tree.binary u a b) line o e = expr_back t (tree.binary u a b) line o e
actual_back t (tree.chars x) line o e = e

pub no_chars_back : (s : Sort) (line : ℕ) (o : Option Refusal) → no_chars s line o ≡ None → o ≡ None
no_chars_back s line o e = noted_back (is_chars s) line TypeMismatch o e

pub actuals_back : (t : NameTable) (es : ExprTrees) (line : ℕ) (o : Option Refusal) → check_actuals t es line o ≡ None → o ≡ None
actuals_back t tree.no_exprs line o e = e
actuals_back t (tree.more_exprs x es) line o e = actual_back t x line o (no_chars_back (sort_of t x) line (check_actual t x line o) (actuals_back t es line (no_chars (sort_of t x) line (check_actual t x line o)) e))

pub item_back : (t : NameTable) (x : ExprTree) (line : ℕ) (o : Option Refusal) → check_item t x line o ≡ None → o ≡ None
item_back t (tree.chars x) line o e = e
item_back t (tree.int n) line o e = e
item_back t (tree.log b) line o e = e
item_back t (tree.name x) line o e = expr_back t (tree.name x) line o e
item_back t (tree.element x es) line o e = expr_back t (tree.element x es) line o e
item_back t (tree.paren x) line o e = expr_back t x line o (no_chars_back (sort_of t x) line (check_expr t x line o) e)
item_back t (tree.unary u x) line o e = expr_back t (tree.unary u x) line o e
item_back t (tree.binary u a b) line o e = expr_back t (tree.binary u a b) line o e

pub items_back : (t : NameTable) (es : ExprTrees) (line : ℕ) (o : Option Refusal) → check_items t es line o ≡ None → o ≡ None
items_back t tree.no_exprs line o e = e
items_back t (tree.more_exprs x es) line o e = item_back t x line o (items_back t es line (check_item t x line o) e)

-- ---- statements

assignment_back : (t : NameTable) (a b : ExprTree) (line : ℕ) (o : Option Refusal) → check_assignment t a b line o ≡ None → o ≡ None
assignment_back t a b line o e = target_back t a line o (expr_back t b line (check_target t a line o) (noted_back (not (fits (target_sort t a) (sort_of t b))) line TypeMismatch (check_expr t b line (check_target t a line o)) e))

pub step_back : (t : NameTable) (s : Option ExprTree) (line : ℕ) (o : Option Refusal) → check_step t s line o ≡ None → o ≡ None
step_back t None line o e = e
step_back t (Some x) line o e = int_expr_back t x line o e

mutual
  pub stmt_back : (t : NameTable) (at : LineTable) (s : StmtTree) (line : ℕ) (o : Option Refusal) → check_stmt t at s line o ≡ None → o ≡ None
  stmt_back t at (tree.stmt id label what) line o e = what_back t at what id (line_or at (Statement id) line) o e

  what_back : (t : NameTable) (at : LineTable) (w : WhatTree) (id line : ℕ) (o : Option Refusal) → check_what t at w id line o ≡ None → o ≡ None
  what_back t at (tree.assign a b) id line o e = assignment_back t a b line o e
  what_back t at (tree.block_if arms other) id line o e = arms_back t at arms id 0 line o (else_back t at other line (check_arms t at arms id 0 line o) e)
  what_back t at (tree.logical_if x s) id line o e = log_expr_back t x line o (stmt_back t at s line (check_log t x line o) e)
  what_back t at (tree.do_loop l) id line o e = loop_back t at l line o e
  what_back t at (tree.call x es) id line o e = actuals_back t es line o e
  what_back t at (tree.goto l) id line o e = e
  what_back t at tree.continue id line o e = e
  what_back t at tree.return id line o e = e
  what_back t at (tree.stop text) id line o e = e
  what_back t at (tree.print es) id line o e = items_back t es line o e
  what_back t at (tree.read es) id line o e = targets_back t es line o e

  pub arm_back : (t : NameTable) (at : LineTable) (a : ArmTree) (line : ℕ) (o : Option Refusal) → check_arm t at a line o ≡ None → o ≡ None
  arm_back t at (tree.arm test body) line o e = log_expr_back t test line o (stmts_back t at body line (check_log t test line o) e)

  pub arms_back : (t : NameTable) (at : LineTable) (as' : ArmTrees) (id n line : ℕ) (o : Option Refusal) → check_arms t at as' id n line o ≡ None → o ≡ None
  arms_back t at tree.no_arms id n line o e = e
  arms_back t at (tree.more_arms a rest) id n line o e =
      arm_back t at a (line_or at (ElseIf id n) line) o (arms_back t at rest id (n + 1) line (check_arm t at a (line_or at (ElseIf id n) line) o) e)

  pub else_back : (t : NameTable) (at : LineTable) (x : ElseTree) (line : ℕ) (o : Option Refusal) → check_else t at x line o ≡ None → o ≡ None
  else_back t at tree.no_else line o e = e
  else_back t at (tree.otherwise ss) line o e = stmts_back t at ss line o e

  loop_back : (t : NameTable) (at : LineTable) (l : LoopTree) (line : ℕ) (o : Option Refusal) → check_loop t at l line o ≡ None → o ≡ None
  loop_back t at (tree.loop index first last step body) line o e =
      let v = wants_int (target_sort t (tree.name index)) line (check_target t (tree.name index) line o) in
      let all = stmts_back t at body line (check_step t step line (check_int t last line (check_int t first line v))) e in
      let high = step_back t step line (check_int t last line (check_int t first line v)) all in
      let low = int_expr_back t last line (check_int t first line v) high in
      let start = int_expr_back t first line v low in
      target_back t (tree.name index) line o (int_back (target_sort t (tree.name index)) line (check_target t (tree.name index) line o) start)

  pub stmts_back : (t : NameTable) (at : LineTable) (ss : StmtTrees) (line : ℕ) (o : Option Refusal) → check_stmts t at ss line o ≡ None → o ≡ None
  stmts_back t at tree.no_stmts line o e = e
  stmts_back t at (tree.more_stmts s ss) line o e = stmt_back t at s line o (stmts_back t at ss line (check_stmt t at s line o) e)
