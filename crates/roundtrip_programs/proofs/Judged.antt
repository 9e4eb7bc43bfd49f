-- Executable statements are judged the same, whatever the lines.
use Rattle.std.proofs.Common.{◌≡◌, ℕ, ◌+◌, List, Option, Some, None, refl, ap, ◌∙◌}
use Rattle.std.specs.Prelude.{not}
use Rattle.f77_ast.specs.Trees.{ExprTree, ExprTrees, StmtTree, WhatTree, ArmTree, ArmTrees, ElseTree, LoopTree, StmtTrees}
use Rattle.f77_ast.specs.Trees as tree
use Rattle.fx_lists.specs.declared.refusal.Refusal.{Refusal}
use Rattle.f77_names.specs.declared.functions.Function.{Function}
use Rattle.f77_names.specs.declared.lines.Sited.TheVariants.{Statement, ElseIf}
use Rattle.f77_names.specs.Lines.{LineTable, line_or}
use Rattle.f77_names.specs.Functions.{function_of}
use Rattle.f77_names.specs.Tables.{NameTable}
use Rattle.f77_checks.specs.declared.sort.Sort.{Sort}
use Rattle.f77_checks.specs.Expressions.{sort_of, is_chars, fits}
use Rattle.f77_checks.specs.Statements.{unknown_or, target_sort, name_written, element_written, check_target, check_targets, bare_actual, check_actual, no_chars, check_actuals, check_item, check_items, check_assignment, check_step, check_stmt, check_what, check_arm, check_arms, check_else, check_loop, check_stmts}
use Rattle.roundtrip_programs.proofs.Found.{SameFound, noted_same}
use Rattle.roundtrip_programs.proofs.Bare.{no_lines, bare_table, parameter_bare}
use Rattle.roundtrip_programs.proofs.Sorts.{sort_bare, wants_int_same, name_same, expr_same, subscripts_same, int_same, log_same}

-- ---- what is written to

target_bare : (t : NameTable) (e : ExprTree) → target_sort t e ≡ target_sort (bare_table t) e
target_bare t (tree.name x) = ap (unknown_or (function_of t.arrays x)) (sort_bare t (tree.name x))
target_bare t (tree.element x es) = ap (unknown_or (function_of t.arrays x)) (sort_bare t (tree.element x es))
target_bare t (tree.int n) = refl
target_bare t (tree.log b) = refl
target_bare t (tree.paren e) = sort_bare t e
target_bare t (tree.unary o e) = refl
target_bare t (tree.binary o a b) = refl
target_bare t (tree.chars x) = refl

name_written_same : (o : Option Function) (t : NameTable) (x : List ℕ) (l m : ℕ) {f g : Option Refusal} → SameFound f g → SameFound (name_written o t x l f) (name_written o (bare_table t) x m g)
name_written_same (Some o) t x l m h = noted_same _ _ _ _ _ _ refl h
name_written_same None t x l m h = name_same t x l m (noted_same _ _ _ _ _ _ (parameter_bare x t.entries) h)

element_written_same : (o : Option Function) (t : NameTable) (x : List ℕ) (es : ExprTrees) (l m : ℕ) {f g : Option Refusal} → SameFound f g
    → SameFound (element_written o t x es l f) (element_written o (bare_table t) x es m g)
element_written_same (Some o) t x es l m h = subscripts_same t es l m (noted_same _ _ _ _ _ _ refl h)
element_written_same None t x es l m h = expr_same t (tree.element x es) l m (noted_same _ _ _ _ _ _ (parameter_bare x t.entries) h)

target_same : (t : NameTable) (e : ExprTree) (l m : ℕ) {f g : Option Refusal} → SameFound f g → SameFound (check_target t e l f) (check_target (bare_table t) e m g)
target_same t (tree.name x) l m h = name_written_same (function_of t.arrays x) t x l m h
target_same t (tree.element x es) l m h = element_written_same (function_of t.arrays x) t x es l m h
target_same t (tree.int n) l m h = h
target_same t (tree.log b) l m h = h
target_same t (tree.paren e) l m h = expr_same t e l m h
target_same t (tree.unary o e) l m h = expr_same t (tree.unary o e) l m h
target_same t (tree.binary o a b) l m h = expr_same t (tree.binary o a b) l m h
target_same t (tree.chars x) l m h = h

targets_same : (t : NameTable) (es : ExprTrees) (l m : ℕ) {f g : Option Refusal} → SameFound f g → SameFound (check_targets t es l f) (check_targets (bare_table t) es m g)
targets_same t tree.no_exprs l m h = h
targets_same t (tree.more_exprs e es) l m h = targets_same t es l m (target_same t e l m h)

-- ---- actual arguments and items of PRINT

bare_actual_same : (o : Option Function) (t : NameTable) (x : List ℕ) (l m : ℕ) {f g : Option Refusal} → SameFound f g → SameFound (bare_actual o t x l f) (bare_actual o (bare_table t) x m g)
bare_actual_same None t x l m h = h
bare_actual_same (Some o) t x l m h = name_same t x l m h

actual_same : (t : NameTable) (e : ExprTree) (l m : ℕ) {f g : Option Refusal} → SameFound f g → SameFound (check_actual t e l f) (check_actual (bare_table t) e m g)
actual_same t (tree.name x) l m h = bare_actual_same (function_of t.arrays x) t x l m h
actual_same t (tree.int n) l m h = h
actual_same t (tree.log b) l m h = h
actual_same t (tree.element x es) l m h = expr_same t (tree.element x es) l m h
actual_same t (tree.paren e) l m h = expr_same t e l m h
actual_same t (tree.unary o e) l m h = expr_same t (tree.unary o e) l m h
actual_same t (tree.binary o a b) l m h = expr_same t (tree.binary o a b) l m h
actual_same t (tree.chars x) l m h = h

no_chars_same : (r s : Sort) (l m : ℕ) → r ≡ s → {f g : Option Refusal} → SameFound f g → SameFound (no_chars r l f) (no_chars s m g)
no_chars_same r s l m e h = noted_same _ _ _ _ _ _ (ap is_chars e) h

actuals_same : (t : NameTable) (es : ExprTrees) (l m : ℕ) {f g : Option Refusal} → SameFound f g → SameFound (check_actuals t es l f) (check_actuals (bare_table t) es m g)
actuals_same t tree.no_exprs l m h = h
actuals_same t (tree.more_exprs e es) l m h = actuals_same t es l m (no_chars_same _ _ l m (sort_bare t e) (actual_same t e l m h))

item_same : (t : NameTable) (e : ExprTree) (l m : ℕ) {f g : Option Refusal} → SameFound f g → SameFound (check_item t e l f) (check_item (bare_table t) e m g)
item_same t (tree.chars x) l m h = h
item_same t (tree.int n) l m h = h
item_same t (tree.log b) l m h = h
item_same t (tree.name x) l m h = expr_same t (tree.name x) l m h
item_same t (tree.element x es) l m h = expr_same t (tree.element x es) l m h
item_same t (tree.paren e) l m h = no_chars_same _ _ l m (sort_bare t e) (expr_same t e l m h)
item_same t (tree.unary o e) l m h = expr_same t (tree.unary o e) l m h
item_same t (tree.binary o a b) l m h = expr_same t (tree.binary o a b) l m h

items_same : (t : NameTable) (es : ExprTrees) (l m : ℕ) {f g : Option Refusal} → SameFound f g → SameFound (check_items t es l f) (check_items (bare_table t) es m g)
items_same t tree.no_exprs l m h = h
items_same t (tree.more_exprs e es) l m h = items_same t es l m (item_same t e l m h)

-- ---- statements

fits_bare : (t : NameTable) (left right : ExprTree) → not (fits (target_sort t left) (sort_of t right)) ≡ not (fits (target_sort (bare_table t) left) (sort_of (bare_table t) right))
fits_bare t left right = ap (λ s. not (fits s (sort_of t right))) (target_bare t left) ∙ ap (λ s. not (fits (target_sort (bare_table t) left) s)) (sort_bare t right)

assignment_same : (t : NameTable) (left right : ExprTree) (l m : ℕ) {f g : Option Refusal} → SameFound f g → SameFound (check_assignment t left right l f) (check_assignment (bare_table t) left right m g)
assignment_same t left right l m h = noted_same _ _ _ _ _ _ (fits_bare t left right) (expr_same t right l m (target_same t left l m h))

step_same : (t : NameTable) (e : Option ExprTree) (l m : ℕ) {f g : Option Refusal} → SameFound f g → SameFound (check_step t e l f) (check_step (bare_table t) e m g)
step_same t None l m h = h
step_same t (Some e) l m h = int_same t e l m h

mutual
  stmt_same : (t : NameTable) (at : LineTable) (s : StmtTree) (l : ℕ) {f g : Option Refusal} → SameFound f g → SameFound (check_stmt t at s l f) (check_stmt (bare_table t) no_lines s 0 g)
  stmt_same t at (tree.stmt id label what) l h = what_same t at what id (line_or at (Statement id) l) h

  what_same : (t : NameTable) (at : LineTable) (w : WhatTree) (id l : ℕ) {f g : Option Refusal} → SameFound f g → SameFound (check_what t at w id l f) (check_what (bare_table t) no_lines w id 0 g)
  what_same t at (tree.assign left right) id l h = assignment_same t left right l 0 h
  what_same t at (tree.block_if arms other) id l h = else_same t at other l (arms_same t at arms id 0 l h)
  what_same t at (tree.logical_if e s) id l h = stmt_same t at s l (log_same t e l 0 h)
  what_same t at (tree.do_loop d) id l h = loop_same t at d l h
  what_same t at (tree.call x es) id l h = actuals_same t es l 0 h
  what_same t at (tree.goto k) id l h = h
  what_same t at tree.continue id l h = h
  what_same t at tree.return id l h = h
  what_same t at (tree.stop text) id l h = h
  what_same t at (tree.print es) id l h = items_same t es l 0 h
  what_same t at (tree.read es) id l h = targets_same t es l 0 h

  arm_same : (t : NameTable) (at : LineTable) (a : ArmTree) (l : ℕ) {f g : Option Refusal} → SameFound f g → SameFound (check_arm t at a l f) (check_arm (bare_table t) no_lines a 0 g)
  arm_same t at (tree.arm test body) l h = stmts_same t at body l (log_same t test l 0 h)

  arms_same : (t : NameTable) (at : LineTable) (arms : ArmTrees) (id n l : ℕ) {f g : Option Refusal} → SameFound f g → SameFound (check_arms t at arms id n l f) (check_arms (bare_table t) no_lines arms id n 0 g)
  arms_same t at tree.no_arms id n l h = h
  arms_same t at (tree.more_arms a rest) id n l h = arms_same t at rest id (n + 1) l (arm_same t at a (line_or at (ElseIf id n) l) h)

  else_same : (t : NameTable) (at : LineTable) (other : ElseTree) (l : ℕ) {f g : Option Refusal} → SameFound f g → SameFound (check_else t at other l f) (check_else (bare_table t) no_lines other 0 g)
  else_same t at tree.no_else l h = h
  else_same t at (tree.otherwise ss) l h = stmts_same t at ss l h

  loop_same : (t : NameTable) (at : LineTable) (d : LoopTree) (l : ℕ) {f g : Option Refusal} → SameFound f g → SameFound (check_loop t at d l f) (check_loop (bare_table t) no_lines d 0 g)
  loop_same t at (tree.loop index first last step body) l h =
      let v = wants_int_same _ _ l 0 (target_bare t (tree.name index)) (target_same t (tree.name index) l 0 h) in
      stmts_same t at body l (step_same t step l 0 (int_same t last l 0 (int_same t first l 0 v)))

  pub stmts_same : (t : NameTable) (at : LineTable) (ss : StmtTrees) (l : ℕ) {f g : Option Refusal} → SameFound f g → SameFound (check_stmts t at ss l f) (check_stmts (bare_table t) no_lines ss 0 g)
  stmts_same t at tree.no_stmts l h = h
  stmts_same t at (tree.more_stmts s ss) l h = stmts_same t at ss l (stmt_same t at s l h)
