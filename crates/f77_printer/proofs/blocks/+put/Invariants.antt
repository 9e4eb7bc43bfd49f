use Rattle.std.proofs.Common.{◌≡◌, drop}
use Rattle.f77_ast.specs.PlainStmt.{stmt_trees, arm_trees}
use Rattle.f77_printer.specs.Lines.{lines_of}
use Rattle.f77_printer.specs.Pages.{page_tree}
use Rattle.f77_printer.specs.ModuleText.{with_arms, with_statements}
use Rattle.f77_printer.proofs.blocks.+put.Given as goal

abbrev pub invariant-put_arms-loop-place : goal.invariant-put_arms-loop-place
invariant-put_arms-loop-place l =
    with_arms (lines_of l.lines) l.id l.place (arm_trees (drop l.place l.arm-items)) (page_tree l.page) ≡ with_arms (lines_of l.lines) l.id 0 (arm_trees l.arm-items) (page_tree l.initial.page)

abbrev pub invariant-put_statements-loop-s : goal.invariant-put_statements-loop-s
invariant-put_statements-loop-s l =
    with_statements (lines_of l.lines) (stmt_trees (drop l.s-index l.s-items)) (page_tree l.page) ≡ with_statements (lines_of l.lines) (stmt_trees l.s-items) (page_tree l.initial.page)
