-- Where nothing is refused in statements, names stand as they may: by the table of names.
use Rattle.std.proofs.Common.{◌≡◌, ◌⊎◌, inl, inr, ℕ, suc, ◌+◌, Bool, true, false, not, List, Option, Some, None, refl, sym, ap, ◌∙◌}
use Rattle.std.specs.Prelude.{nat_eq, if◌then◌else◌}
use Rattle.std.proofs.lemmas.Bool.{eqb-true, not-false}
use Rattle.f77_ast.specs.Trees.{ExprTree, ExprTrees, StmtTree, WhatTree, ArmTree, ArmTrees, ElseTree, LoopTree, StmtTrees}
use Rattle.f77_ast.specs.Trees as tree
use Rattle.f77_ast.specs.Constants.{turns_logical, joins_logical}
use Rattle.fx_lists.specs.declared.code.Code.TheVariants.{SubscriptCount, TypeMismatch, NotAnArray, AssignToConstant}
use Rattle.fx_lists.specs.declared.refusal.Refusal.{Refusal}
use Rattle.f77_names.specs.declared.functions.Function.{Function}
use Rattle.f77_names.specs.declared.lines.Sited.TheVariants.{Statement, ElseIf}
use Rattle.fx_lists.specs.Refusals.{refuse_if}
use Rattle.f77_names.specs.Lines.{LineTable, line_or}
use Rattle.f77_names.specs.Functions.{function_of, takes}
use Rattle.f77_names.specs.Entries.{has_shape, is_parameter}
use Rattle.f77_names.specs.Tables.{NameTable}
use Rattle.f77_checks.specs.declared.sort.Sort.{Sort}
use Rattle.f77_checks.specs.Expressions.{sort_of, is_int, is_log, is_chars, fits, count, check_bare, check_name, dimensions_of, check_call, check_count, wants_int, wants_log, wants, check_expr, check_subscripts, check_int, check_log}
use Rattle.f77_checks.specs.Statements.{target_sort, name_written, element_written, check_target, check_targets, bare_actual, check_actual, no_chars, check_actuals, check_item, check_items, check_assignment, check_step, check_stmt, check_what, check_arm, check_arms, check_else, check_loop, check_stmts}
use Rattle.laws_programs.specs.SymbolTables.Shapes.{Shaped, AllShaped, ShapedActual, ShapedActuals, ShapedStep, ShapedStmt, ShapedWhat, ShapedArms, ShapedArm, ShapedElse, ShapedLoop, ShapedList}
use Rattle.laws_programs.proofs.SymbolTables.StatementRefusals.{noted_back, wants_back, int_back, counted_back, no_chars_back, expr_back, subscripts_back, int_expr_back, log_expr_back, target_back, targets_back, actual_back, actuals_back, item_back, items_back, stmt_back, arm_back, arms_back, else_back, step_back, stmts_back}
use Rattle.fx_lists.proofs.Refused.{none_refused}

-- a name with some has as many bounds, or is a function
abbrev pub Indexed : NameTable → List ℕ → ExprTrees → Type 0
Indexed t x es = (dimensions_of t x ≡ Some (count es)) ⊎ ((dimensions_of t x ≡ None) × ((f : Function) × (function_of t.arrays x ≡ Some f)))

module _ (t : NameTable) (bare : List ℕ → Type 0) (indexed : List ℕ → ExprTrees → Type 0) (is_bare : (x : List ℕ) → has_shape x t.entries ≡ false → bare x) (is_indexed : (x : List ℕ) (es : ExprTrees) → Indexed t x es → indexed x es) where
  bare_is : (f : Option Function) (array : Bool) (line : ℕ) (o : Option Refusal) → check_bare f array line o ≡ None → array ≡ false
  bare_is None array line o e = (none_refused array line NotAnArray o e).0
  bare_is (Some f) array line o e = let z : true ≡ false = (none_refused true line SubscriptCount o e).0 in cc

  indexed_is : (x : List ℕ) (es : ExprTrees) (m : Option ℕ) (f : Option Function) (line : ℕ) (o : Option Refusal) → dimensions_of t x ≡ m → function_of t.arrays x ≡ f → check_count m f (count es) line o ≡ None → Indexed t x es
  indexed_is x es None None line o d h e = let z : true ≡ false = (none_refused true line NotAnArray o e).0 in cc
  indexed_is x es None (Some f) line o d h e = inr (d, (f, h))
  indexed_is x es (Some m) f line o d h e =
      let same = eqb-true (count es) m (not-false (nat_eq (count es) m) (none_refused (not (nat_eq (count es) m)) line SubscriptCount o e).0) in
      inl (d ∙ ap Some (sym same))

  mutual
    pub expr_shaped : (x : ExprTree) (line : ℕ) (o : Option Refusal) → check_expr t x line o ≡ None → Shaped bare indexed x
    expr_shaped (tree.int n) line o e = tt
    expr_shaped (tree.log b) line o e = tt
    expr_shaped (tree.name x) line o e = is_bare x (bare_is (function_of t.arrays x) (has_shape x t.entries) line o e)
    expr_shaped (tree.element x es) line o e =
        (is_indexed x es (indexed_is x es (dimensions_of t x) (function_of t.arrays x) line (check_subscripts t es line o) refl refl e), exprs_shaped es line o (counted_back (dimensions_of t x) (function_of t.arrays x) (count es) line (check_subscripts t es line o) e))
    expr_shaped (tree.paren x) line o e = expr_shaped x line o e
    expr_shaped (tree.unary u x) line o e = expr_shaped x line o (wants_back (turns_logical u) (sort_of t x) line (check_expr t x line o) e)
    expr_shaped (tree.binary u a b) line o e =
        let first = wants (joins_logical u) (sort_of t a) line (check_expr t a line o) in
        let second = wants_back (joins_logical u) (sort_of t b) line (check_expr t b line first) e in
        (expr_shaped a line o (wants_back (joins_logical u) (sort_of t a) line (check_expr t a line o) (expr_back t b line first second)), expr_shaped b line first second)
    expr_shaped (tree.chars x) line o e = tt

    pub exprs_shaped : (es : ExprTrees) (line : ℕ) (o : Option Refusal) → check_subscripts t es line o ≡ None → AllShaped bare indexed es
    exprs_shaped tree.no_exprs line o e = tt
    exprs_shaped (tree.more_exprs x es) line o e =
        let next = wants_int (sort_of t x) line (check_expr t x line o) in
        (expr_shaped x line o (int_back (sort_of t x) line (check_expr t x line o) (subscripts_back t es line next e)), exprs_shaped es line next e)

  int_shaped : (x : ExprTree) (line : ℕ) (o : Option Refusal) → check_int t x line o ≡ None → Shaped bare indexed x
  int_shaped x line o e = expr_shaped x line o (int_back (sort_of t x) line (check_expr t x line o) e)

  log_shaped : (x : ExprTree) (line : ℕ) (o : Option Refusal) → check_log t x line o ≡ None → Shaped bare indexed x
  log_shaped x line o e = expr_shaped x line o (noted_back (not (is_log (sort_of t x))) line TypeMismatch (check_expr t x line o) e)

  -- ---- what is written to, actuals, items

  name_target : (f : Option Function) (x : List ℕ) (line : ℕ) (o : Option Refusal) → name_written f t x line o ≡ None → bare x
  name_target (Some f) x line o e = let z : true ≡ false = (none_refused true line AssignToConstant o e).0 in cc
  name_target None x line o e = is_bare x (bare_is (function_of t.arrays x) (has_shape x t.entries) line (refuse_if (is_parameter x t.entries) line AssignToConstant o) e)

  element_target : (f : Option Function) (x : List ℕ) (es : ExprTrees) (line : ℕ) (o : Option Refusal) → element_written f t x es line o ≡ None → Shaped bare indexed (tree.element x es)
  element_target (Some f) x es line o e = let z : true ≡ false = (none_refused true line AssignToConstant o (subscripts_back t es line (refuse_if true line AssignToConstant o) e)).0 in cc
  element_target None x es line o e = expr_shaped (tree.element x es) line (refuse_if (is_parameter x t.entries) line AssignToConstant o) e

  target_shaped : (x : ExprTree) (line : ℕ) (o : Option Refusal) → check_target t x line o ≡ None → Shaped bare indexed x
  target_shaped (tree.name x) line o e = name_target (function_of t.arrays x) x line o e
  target_shaped (tree.element x es) line o e = element_target (function_of t.arrays x) x es line o e
  target_shaped (tree.int n) line o e = tt
  target_shaped (tree.log b) line o e = tt
  target_shaped (tree.paren x) line o e = expr_shaped (tree.paren x) line o e
  target_shaped (tree.unary u x) line o e = expr_shaped (tree.unary u x) line o e
  target_shaped (tree.binary u a b) line o e = expr_shaped (tree.binary u a b) line o e
  target_shaped (tree.chars x) line o e = tt

  targets_shaped : (es : ExprTrees) (line : ℕ) (o : Option Refusal) → check_targets t es line o ≡ None → AllShaped bare indexed es
  targets_shaped tree.no_exprs line o e = tt
  targets_shaped (tree.more_exprs x es) line o e = (target_shaped x line o (targets_back t es line (check_target t x line o) e), targets_shaped es line (check_target t x line o) e)

  actual_shaped : (x : ExprTree) (line : ℕ) (o : Option Refusal) → check_actual t x line o ≡ None → ShapedActual bare indexed x
  actual_shaped (tree.name x) line o e = tt
  actual_shaped (tree.int n) line o e = tt
  actual_shaped (tree.log b) line o e = tt
  actual_shaped (tree.element x es) line o e = expr_shaped (tree.element x es) line o e
  actual_shaped (tree.paren x) line o e = expr_shaped (tree.paren x) line o e
  actual_shaped (tree.unary u x) line o e = expr_shaped (tree.unary u x) line o e
  actual_shaped (tree.binary u a b) line o e = expr_shaped (tree.binary u a b) line o e
  actual_shaped (tree.chars x) line o e = tt

  actuals_shaped : (es : ExprTrees) (line : ℕ) (o : Option Refusal) → check_actuals t es line o ≡ None → ShapedActuals bare indexed es
  actuals_shaped tree.no_exprs line o e = tt
  actuals_shaped (tree.more_exprs x es) line o e =
      let next = no_chars (sort_of t x) line (check_actual t x line o) in
      (actual_shaped x line o (no_chars_back (sort_of t x) line (check_actual t x line o) (actuals_back t es line next e)), actuals_shaped es line next e)

  item_shaped : (x : ExprTree) (line : ℕ) (o : Option Refusal) → check_item t x line o ≡ None → Shaped bare indexed x
  item_shaped (tree.chars x) line o e = tt
  item_shaped (tree.int n) line o e = tt
  item_shaped (tree.log b) line o e = tt
  item_shaped (tree.name x) line o e = expr_shaped (tree.name x) line o e
  item_shaped (tree.element x es) line o e = expr_shaped (tree.element x es) line o e
  item_shaped (tree.paren x) line o e = expr_shaped x line o (no_chars_back (sort_of t x) line (check_expr t x line o) e)
  item_shaped (tree.unary u x) line o e = expr_shaped (tree.unary u x) line o e
  item_shaped (tree.binary u a b) line o e = expr_shaped (tree.binary u a b) line o e

  items_shaped : (es : ExprTrees) (line : ℕ) (o : Option Refusal) → check_items t es line o ≡ None → AllShaped bare indexed es
  items_shaped tree.no_exprs line o e = tt
  items_shaped (tree.more_exprs x es) line o e = (item_shaped x line o (items_back t es line (check_item t x line o) e), items_shaped es line (check_item t x line o) e)

  step_shaped : (s : Option ExprTree) (line : ℕ) (o : Option Refusal) → check_step t s line o ≡ None → ShapedStep bare indexed s
  step_shaped None line o e = tt
  step_shaped (Some x) line o e = int_shaped x line o e

  assignment_shaped : (a b : ExprTree) (line : ℕ) (o : Option Refusal) → check_assignment t a b line o ≡ None → Shaped bare indexed a × Shaped bare indexed b
  assignment_shaped a b line o e =
      let last = noted_back (not (fits (target_sort t a) (sort_of t b))) line TypeMismatch (check_expr t b line (check_target t a line o)) e in
      (target_shaped a line o (expr_back t b line (check_target t a line o) last), expr_shaped b line (check_target t a line o) last)

  -- ---- statements

  module _ (at : LineTable) where
    mutual
      stmt_shaped : (s : StmtTree) (line : ℕ) (o : Option Refusal) → check_stmt t at s line o ≡ None → ShapedStmt bare indexed s
      stmt_shaped (tree.stmt id label what) line o e = what_shaped what id (line_or at (Statement id) line) o e

      what_shaped : (w : WhatTree) (id line : ℕ) (o : Option Refusal) → check_what t at w id line o ≡ None → ShapedWhat bare indexed w
      what_shaped (tree.assign a b) id line o e = assignment_shaped a b line o e
      what_shaped (tree.block_if arms other) id line o e = (arms_shaped arms id 0 line o (else_back t at other line (check_arms t at arms id 0 line o) e), else_shaped other line (check_arms t at arms id 0 line o) e)
      what_shaped (tree.logical_if x s) id line o e = (log_shaped x line o (stmt_back t at s line (check_log t x line o) e), stmt_shaped s line (check_log t x line o) e)
      what_shaped (tree.do_loop l) id line o e = loop_shaped l line o e
      what_shaped (tree.call x es) id line o e = actuals_shaped es line o e
      what_shaped (tree.goto l) id line o e = tt
      what_shaped tree.continue id line o e = tt
      what_shaped tree.return id line o e = tt
      what_shaped (tree.stop text) id line o e = tt
      what_shaped (tree.print es) id line o e = items_shaped es line o e
      what_shaped (tree.read es) id line o e = targets_shaped es line o e

      arms_shaped : (as' : ArmTrees) (id n line : ℕ) (o : Option Refusal) → check_arms t at as' id n line o ≡ None → ShapedArms bare indexed as'
      arms_shaped tree.no_arms id n line o e = tt
      arms_shaped (tree.more_arms a rest) id n line o e =
          let next = check_arm t at a (line_or at (ElseIf id n) line) o in
          (arm_shaped a (line_or at (ElseIf id n) line) o (arms_back t at rest id (n + 1) line next e), arms_shaped rest id (n + 1) line next e)

      arm_shaped : (a : ArmTree) (line : ℕ) (o : Option Refusal) → check_arm t at a line o ≡ None → ShapedArm bare indexed a
      arm_shaped (tree.arm test body) line o e = (log_shaped test line o (stmts_back t at body line (check_log t test line o) e), stmts_shaped body line (check_log t test line o) e)

      else_shaped : (x : ElseTree) (line : ℕ) (o : Option Refusal) → check_else t at x line o ≡ None → ShapedElse bare indexed x
      else_shaped tree.no_else line o e = tt
      else_shaped (tree.otherwise ss) line o e = stmts_shaped ss line o e

      loop_shaped : (l : LoopTree) (line : ℕ) (o : Option Refusal) → check_loop t at l line o ≡ None → ShapedLoop bare indexed l
      loop_shaped (tree.loop index first last step body) line o e =
          let v = wants_int (target_sort t (tree.name index)) line (check_target t (tree.name index) line o) in
          let a = check_int t first line v in
          let b = check_int t last line a in
          let all = stmts_back t at body line (check_step t step line b) e in
          let high = step_back t step line b all in
          let low = int_expr_back t last line a high in
          let start = int_expr_back t first line v low in
          (target_shaped (tree.name index) line o (int_back (target_sort t (tree.name index)) line (check_target t (tree.name index) line o) start), int_shaped first line v low, int_shaped last line a high, step_shaped step line b all, stmts_shaped body line (check_step t step line b) e)

      pub stmts_shaped : (ss : StmtTrees) (line : ℕ) (o : Option Refusal) → check_stmts t at ss line o ≡ None → ShapedList bare indexed ss
      stmts_shaped tree.no_stmts line o e = tt
      stmts_shaped (tree.more_stmts s ss) line o e = (stmt_shaped s line o (stmts_back t at ss line (check_stmt t at s line o) e), stmts_shaped ss line (check_stmt t at s line o) e)
