use Rattle.std.proofs.Common.{◌≡◌, drop}
use Rattle.f77_ast.specs.PlainStmt.{stmt_trees, arm_trees}
use Rattle.f77_ast.specs.Shapes.{walk_arms, walk_list}
use Rattle.dependence_test.specs.Finding.{the_loop}
use Rattle.dependence_test.proofs.finding.+loops.Given as goal

abbrev pub invariant-loop_in-loop-s : goal.invariant-loop_in-loop-s
invariant-loop_in-loop-s l = walk_list (the_loop l.id) (stmt_trees (drop l.s-index l.s-items)) ≡ walk_list (the_loop l.id) (stmt_trees l.s-items)

abbrev pub invariant-loop_in_arms-loop-arm : goal.invariant-loop_in_arms-loop-arm
invariant-loop_in_arms-loop-arm l = walk_arms (the_loop l.id) (arm_trees (drop l.arm-index l.arm-items)) ≡ walk_arms (the_loop l.id) (arm_trees l.arm-items)
