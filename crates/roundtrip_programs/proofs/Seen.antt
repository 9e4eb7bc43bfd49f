-- The names that appear in expressions and statements are the same, whatever the lines.
use Rattle.std.proofs.Common.{ℕ, suc, List, Option, Some, None}
use Rattle.f77_ast.specs.Trees.{ExprTree, ExprTrees, StmtTree, WhatTree, ArmTree, ArmTrees, ElseTree, LoopTree, StmtTrees}
use Rattle.f77_ast.specs.Trees as tree
use Rattle.f77_ast.specs.Hidden.{form_of_if}
use Rattle.f77_names.specs.declared.lines.Sited.TheVariants.{Statement, ElseIf}
use Rattle.f77_names.specs.declared.functions.Function.{Function}
use Rattle.f77_names.specs.Lines.{LineTable, line_or}
use Rattle.f77_names.specs.Functions.{function_of}
use Rattle.f77_names.specs.Entries.{EntryTree}
use Rattle.f77_names.specs.Appearing.{unless_function, name_seen, expr_seen, exprs_seen, maybe_seen, head_of, head_seen, stmt_seen, what_seen, arm_seen, arms_seen, else_seen, loop_seen, stmts_seen}
use Rattle.roundtrip_programs.proofs.Bare.{no_lines, Bare, seen_same}

unless_same : (f : Option Function) (x : List ℕ) (line : ℕ) {es ds : List EntryTree} → Bare es ds → Bare (unless_function f x line es) (unless_function f x 0 ds)
unless_same None x line h = seen_same x line h
unless_same (Some f) x line h = h

name_same : (fs : List Function) (x : List ℕ) (line : ℕ) {es ds : List EntryTree} → Bare es ds → Bare (name_seen fs x line es) (name_seen fs x 0 ds)
name_same fs x line h = unless_same (function_of fs x) x line h

mutual
  pub expr_same : (fs : List Function) (e : ExprTree) (line : ℕ) {es ds : List EntryTree} → Bare es ds → Bare (expr_seen fs e line es) (expr_seen fs e 0 ds)
  expr_same fs (tree.int n) line h = h
  expr_same fs (tree.log b) line h = h
  expr_same fs (tree.name x) line h = name_same fs x line h
  expr_same fs (tree.element x rest) line h = exprs_same fs rest line (name_same fs x line h)
  expr_same fs (tree.paren e) line h = expr_same fs e line h
  expr_same fs (tree.unary o e) line h = expr_same fs e line h
  expr_same fs (tree.binary o a b) line h = expr_same fs b line (expr_same fs a line h)
  expr_same fs (tree.chars x) line h = h

  pub exprs_same : (fs : List Function) (rest : ExprTrees) (line : ℕ) {es ds : List EntryTree} → Bare es ds → Bare (exprs_seen fs rest line es) (exprs_seen fs rest 0 ds)
  exprs_same fs tree.no_exprs line h = h
  exprs_same fs (tree.more_exprs a rest) line h = exprs_same fs rest line (expr_same fs a line h)

pub maybe_same : (fs : List Function) (e : Option ExprTree) (line : ℕ) {es ds : List EntryTree} → Bare es ds → Bare (maybe_seen fs e line es) (maybe_seen fs e 0 ds)
maybe_same fs None line h = h
maybe_same fs (Some e) line h = expr_same fs e line h

head_same : (fs : List Function) (o : Option (ExprTree × List ℕ)) (line : ℕ) {es ds : List EntryTree} → Bare es ds → Bare (head_seen fs o line es) (head_seen fs o 0 ds)
head_same fs None line h = h
head_same fs (Some p) line h = name_same fs p.1 line (expr_same fs p.0 line h)

mutual
  stmt_same : (fs : List Function) (at : LineTable) (s : StmtTree) (line : ℕ) {es ds : List EntryTree} → Bare es ds → Bare (stmt_seen fs at s line es) (stmt_seen fs no_lines s 0 ds)
  stmt_same fs at (tree.stmt id label what) line h = what_same fs at what id (line_or at (Statement id) line) h

  what_same : (fs : List Function) (at : LineTable) (w : WhatTree) (id line : ℕ) {es ds : List EntryTree} → Bare es ds → Bare (what_seen fs at w id line es) (what_seen fs no_lines w id 0 ds)
  what_same fs at (tree.assign left right) id line h = expr_same fs right line (expr_same fs left line h)
  what_same fs at (tree.block_if arms other) id line h = else_same fs at other line (arms_same fs at arms id 0 line (head_same fs (head_of (form_of_if arms other)) line h))
  what_same fs at (tree.logical_if e s) id line h = stmt_same fs at s line (expr_same fs e line h)
  what_same fs at (tree.do_loop l) id line h = loop_same fs at l line h
  what_same fs at (tree.call x rest) id line h = exprs_same fs rest line h
  what_same fs at (tree.goto l) id line h = h
  what_same fs at tree.continue id line h = h
  what_same fs at tree.return id line h = h
  what_same fs at (tree.stop text) id line h = h
  what_same fs at (tree.print rest) id line h = exprs_same fs rest line h
  what_same fs at (tree.read rest) id line h = exprs_same fs rest line h

  arm_same : (fs : List Function) (at : LineTable) (a : ArmTree) (line : ℕ) {es ds : List EntryTree} → Bare es ds → Bare (arm_seen fs at a line es) (arm_seen fs no_lines a 0 ds)
  arm_same fs at (tree.arm test body) line h = stmts_same fs at body line (expr_same fs test line h)

  arms_same : (fs : List Function) (at : LineTable) (arms : ArmTrees) (id n line : ℕ) {es ds : List EntryTree} → Bare es ds → Bare (arms_seen fs at arms id n line es) (arms_seen fs no_lines arms id n 0 ds)
  arms_same fs at tree.no_arms id n line h = h
  arms_same fs at (tree.more_arms a rest) id n line h = arms_same fs at rest id (suc n) line (arm_same fs at a (line_or at (ElseIf id n) line) h)

  else_same : (fs : List Function) (at : LineTable) (other : ElseTree) (line : ℕ) {es ds : List EntryTree} → Bare es ds → Bare (else_seen fs at other line es) (else_seen fs no_lines other 0 ds)
  else_same fs at tree.no_else line h = h
  else_same fs at (tree.otherwise ss) line h = stmts_same fs at ss line h

  loop_same : (fs : List Function) (at : LineTable) (l : LoopTree) (line : ℕ) {es ds : List EntryTree} → Bare es ds → Bare (loop_seen fs at l line es) (loop_seen fs no_lines l 0 ds)
  loop_same fs at (tree.loop index first last step body) line h =
      stmts_same fs at body line (maybe_same fs step line (expr_same fs last line (expr_same fs first line (name_same fs index line h))))

  pub stmts_same : (fs : List Function) (at : LineTable) (ss : StmtTrees) (line : ℕ) {es ds : List EntryTree} → Bare es ds → Bare (stmts_seen fs at ss line es) (stmts_seen fs no_lines ss 0 ds)
  stmts_same fs at tree.no_stmts line h = h
  stmts_same fs at (tree.more_stmts s ss) line h = stmts_same fs at ss line (stmt_same fs at s line h)
