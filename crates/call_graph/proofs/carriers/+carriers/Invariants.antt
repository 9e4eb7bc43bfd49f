use Rattle.std.proofs.Common.{◌≡◌, drop}
use Rattle.f77_ast.specs.PlainStmt.{stmt_trees, arm_trees}
use Rattle.f77_ast.specs.Shapes.{walk_arms, walk_list}
use Rattle.f77_ast.specs.Hidden.{the_carrier}
use Rattle.call_graph.proofs.carriers.+carriers.Given as goal

abbrev pub invariant-carrier_in-loop-s : goal.invariant-carrier_in-loop-s
invariant-carrier_in-loop-s l = walk_list (the_carrier l.id) (stmt_trees (drop l.s-index l.s-items)) ≡ walk_list (the_carrier l.id) (stmt_trees l.s-items)

abbrev pub invariant-carrier_in_arms-loop-arm : goal.invariant-carrier_in_arms-loop-arm
invariant-carrier_in_arms-loop-arm l = walk_arms (the_carrier l.id) (arm_trees (drop l.arm-index l.arm-items)) ≡ walk_arms (the_carrier l.id) (arm_trees l.arm-items)
