use Rattle.std.proofs.Common.{◌≡◌, ◌++◌, drop}
use Rattle.f77_ast.specs.PlainStmt.{stmt_trees, arm_trees}
use Rattle.f77_ast.specs.Shapes.{walk_list, walk_arms}
use Rattle.privatizer.specs.Functions.{the_functions}
use Rattle.privatizer.proofs.functions.+functions.Given as goal

abbrev pub invariant-push_list-loop-s : goal.invariant-push_list-loop-s
invariant-push_list-loop-s l = l.names ++ walk_list the_functions (stmt_trees (drop l.s-index l.s-items)) ≡ l.fn.names ++ walk_list the_functions (stmt_trees l.s-items)

abbrev pub invariant-push_arms-loop-arm : goal.invariant-push_arms-loop-arm
invariant-push_arms-loop-arm l = l.names ++ walk_arms the_functions (arm_trees (drop l.arm-index l.arm-items)) ≡ l.fn.names ++ walk_arms the_functions (arm_trees l.arm-items)
