use Rattle.std.proofs.Common.{◌≡◌, ◌++◌, drop}
use Rattle.f77_ast.specs.PlainStmt.{stmt_trees, arm_trees}
use Rattle.f77_ast.specs.Shapes.{walk_list, walk_arms}
use Rattle.f77_ast.specs.Index.{names_of}
use Rattle.loop_marker.specs.Variables.{the_indexes}
use Rattle.loop_marker.proofs.variables.+indexes.Given as goal

abbrev pub invariant-push_list-loop-s : goal.invariant-push_list-loop-s
invariant-push_list-loop-s l = l.made.items ++ walk_list (the_indexes (names_of l.symbols)) (stmt_trees (drop l.s-index l.s-items)) ≡ l.fn.made.items ++ walk_list (the_indexes (names_of l.symbols)) (stmt_trees l.s-items)

abbrev pub invariant-push_arms-loop-arm : goal.invariant-push_arms-loop-arm
invariant-push_arms-loop-arm l = l.made.items ++ walk_arms (the_indexes (names_of l.symbols)) (arm_trees (drop l.arm-index l.arm-items)) ≡ l.fn.made.items ++ walk_arms (the_indexes (names_of l.symbols)) (arm_trees l.arm-items)
