-- The names that appear in expressions and executable statements, in the order of the text. Names of functions are none.
use Rattle.std.specs.Prelude.{ℕ, suc, List, Option, Some, None}
use Rattle.f77_ast.specs.Trees.{ExprTree, ExprTrees, StmtTree, WhatTree, ArmTree, ArmTrees, ElseTree, LoopTree, StmtTrees}
use Rattle.f77_ast.specs.Trees as tree
use Rattle.f77_ast.specs.Hidden.{IfForm, block, reference, do_while, form_of_if}
use Rattle.f77_names.specs.declared.lines.Sited.TheVariants.{Statement, ElseIf}
use Rattle.f77_names.specs.declared.functions.Function.{Function}
use Rattle.f77_names.specs.Lines.{LineTable, line_or}
use Rattle.f77_names.specs.Functions.{function_of}
use Rattle.f77_names.specs.Entries.{EntryTree, seen}

abbrev pub unless_function : Option Function → List ℕ → ℕ → List EntryTree → List EntryTree
unless_function None x line es = seen x line es
unless_function (Some f) x line es = es

abbrev pub name_seen : List Function → List ℕ → ℕ → List EntryTree → List EntryTree
name_seen fs x line es = unless_function (function_of fs x) x line es

abbrev mutual
  pub expr_seen : List Function → ExprTree → ℕ → List EntryTree → List EntryTree
  expr_seen fs (tree.int n) line es = es
  expr_seen fs (tree.log b) line es = es
  expr_seen fs (tree.name x) line es = name_seen fs x line es
  expr_seen fs (tree.element x rest) line es = exprs_seen fs rest line (name_seen fs x line es)
  expr_seen fs (tree.paren e) line es = expr_seen fs e line es
  expr_seen fs (tree.unary o e) line es = expr_seen fs e line es
  expr_seen fs (tree.binary o a b) line es = expr_seen fs b line (expr_seen fs a line es)
  expr_seen fs (tree.chars x) line es = es

  pub exprs_seen : List Function → ExprTrees → ℕ → List EntryTree → List EntryTree
  exprs_seen fs tree.no_exprs line es = es
  exprs_seen fs (tree.more_exprs a rest) line es = exprs_seen fs rest line (expr_seen fs a line es)

abbrev pub maybe_seen : List Function → Option ExprTree → ℕ → List EntryTree → List EntryTree
maybe_seen fs None line es = es
maybe_seen fs (Some e) line es = expr_seen fs e line es

-- V and F, where a block IF stands for an assignment `V = F(A)` of the value of a function
abbrev pub head_of : IfForm → Option (ExprTree × List ℕ)
head_of block = None
head_of (reference left f actuals) = Some (left, f)
head_of (do_while label test body) = None

abbrev pub head_seen : List Function → Option (ExprTree × List ℕ) → ℕ → List EntryTree → List EntryTree
head_seen fs None line es = es
head_seen fs (Some p) line es = name_seen fs p.1 line (expr_seen fs p.0 line es)

abbrev mutual
  -- a statement within one at this line
  pub stmt_seen : List Function → LineTable → StmtTree → ℕ → List EntryTree → List EntryTree
  stmt_seen fs at (tree.stmt id label what) line es = what_seen fs at what id (line_or at (Statement id) line) es

  pub what_seen : List Function → LineTable → WhatTree → ℕ → ℕ → List EntryTree → List EntryTree
  what_seen fs at (tree.assign left right) id line es = expr_seen fs right line (expr_seen fs left line es)
  -- `V = F(A)` has V and F before A in the text; the statements of its block IF have no further names
  what_seen fs at (tree.block_if arms other) id line es =
      else_seen fs at other line (arms_seen fs at arms id 0 line (head_seen fs (head_of (form_of_if arms other)) line es))
  what_seen fs at (tree.logical_if e s) id line es = stmt_seen fs at s line (expr_seen fs e line es)
  what_seen fs at (tree.do_loop l) id line es = loop_seen fs at l line es
  what_seen fs at (tree.call x rest) id line es = exprs_seen fs rest line es
  what_seen fs at (tree.goto l) id line es = es
  what_seen fs at tree.continue id line es = es
  what_seen fs at tree.return id line es = es
  what_seen fs at (tree.stop text) id line es = es
  what_seen fs at (tree.print rest) id line es = exprs_seen fs rest line es
  what_seen fs at (tree.read rest) id line es = exprs_seen fs rest line es

  pub arm_seen : List Function → LineTable → ArmTree → ℕ → List EntryTree → List EntryTree
  arm_seen fs at (tree.arm test body) line es = stmts_seen fs at body line (expr_seen fs test line es)

  -- the parts of a block IF from number n on
  pub arms_seen : List Function → LineTable → ArmTrees → ℕ → ℕ → ℕ → List EntryTree → List EntryTree
  arms_seen fs at tree.no_arms id n line es = es
  arms_seen fs at (tree.more_arms a rest) id n line es = arms_seen fs at rest id (suc n) line (arm_seen fs at a (line_or at (ElseIf id n) line) es)

  pub else_seen : List Function → LineTable → ElseTree → ℕ → List EntryTree → List EntryTree
  else_seen fs at tree.no_else line es = es
  else_seen fs at (tree.otherwise ss) line es = stmts_seen fs at ss line es

  pub loop_seen : List Function → LineTable → LoopTree → ℕ → List EntryTree → List EntryTree
  loop_seen fs at (tree.loop index first last step body) line es =
      stmts_seen fs at body line (maybe_seen fs step line (expr_seen fs last line (expr_seen fs first line (name_seen fs index line es))))

  pub stmts_seen : List Function → LineTable → StmtTrees → ℕ → List EntryTree → List EntryTree
  stmts_seen fs at tree.no_stmts line es = es
  stmts_seen fs at (tree.more_stmts s ss) line es = stmts_seen fs at ss line (stmt_seen fs at s line es)
