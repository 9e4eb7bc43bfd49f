use Rattle.std.proofs.Common.{◌≡◌, drop}
use Rattle.f77_ast.specs.PlainStmt.{arm_trees, stmt_trees}
use Rattle.f77_names.specs.Views.{line_in, table_tree}
use Rattle.f77_checks.specs.Statements.{check_arms, check_stmts}
use Rattle.f77_checks.proofs.statements.+judged.Given as goal

abbrev pub invariant-check_arms-loop-place : goal.invariant-check_arms-loop-place
invariant-check_arms-loop-place l =
    check_arms (table_tree l.table) (line_in l.lines) (arm_trees (drop l.place l.arm-items)) l.id l.place l.line l.found ≡ check_arms (table_tree l.table) (line_in l.lines) (arm_trees l.arm-items) l.id 0 l.line l.initial.found

abbrev pub invariant-check_list-loop-s : goal.invariant-check_list-loop-s
invariant-check_list-loop-s l =
    check_stmts (table_tree l.table) (line_in l.lines) (stmt_trees (drop l.s-index l.s-items)) l.line l.found ≡ check_stmts (table_tree l.table) (line_in l.lines) (stmt_trees l.s-items) l.line l.initial.found
