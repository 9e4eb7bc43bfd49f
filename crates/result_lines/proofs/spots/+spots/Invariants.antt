use Rattle.std.proofs.Common.{◌≡◌, ◌++◌, drop}
use Rattle.f77_ast.specs.PlainStmt.{stmt_trees, arm_trees}
use Rattle.result_lines.specs.ClaimSpots.{list_spots, arms_spots}
use Rattle.result_lines.proofs.spots.+spots.Given as goal

abbrev pub invariant-put_list-loop-s : goal.invariant-put_list-loop-s
invariant-put_list-loop-s l = l.out ++ list_spots (stmt_trees (drop l.s-index l.s-items)) ≡ l.fn.out ++ list_spots (stmt_trees l.s-items)

abbrev pub invariant-put_arms-loop-arm : goal.invariant-put_arms-loop-arm
invariant-put_arms-loop-arm l = l.out ++ arms_spots (arm_trees (drop l.arm-index l.arm-items)) ≡ l.fn.out ++ arms_spots (arm_trees l.arm-items)
