use Rattle.std.proofs.Common.{◌≡◌, ◌++◌, drop}
use Rattle.f77_ast.specs.PlainStmt.{stmt_trees, arm_trees}
use Rattle.f77_ast.specs.Shapes.{walk_list, walk_arms}
use Rattle.loop_marker.specs.Known.{known_module}
use Rattle.loop_marker.specs.Marks.{mark_of, the_marks}
use Rattle.loop_marker.proofs.loops.+loops.Given as goal

abbrev pub invariant-push_list-loop-s : goal.invariant-push_list-loop-s
invariant-push_list-loop-s l = l.made ++ walk_list (the_marks (mark_of (known_module l.a))) (stmt_trees (drop l.s-index l.s-items)) ≡ l.fn.made ++ walk_list (the_marks (mark_of (known_module l.a))) (stmt_trees l.s-items)

abbrev pub invariant-push_arms-loop-arm : goal.invariant-push_arms-loop-arm
invariant-push_arms-loop-arm l = l.made ++ walk_arms (the_marks (mark_of (known_module l.a))) (arm_trees (drop l.arm-index l.arm-items)) ≡ l.fn.made ++ walk_arms (the_marks (mark_of (known_module l.a))) (arm_trees l.arm-items)
