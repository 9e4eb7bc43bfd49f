use Rattle.std.proofs.Common.{◌≡◌, ◌++◌, drop}
use Rattle.f77_ast.specs.PlainStmt.{stmt_trees, arm_trees}
use Rattle.out_regions.specs.Leaving.{list_labels, arms_labels}
use Rattle.out_regions.proofs.leaving.+labels.Given as goal

abbrev pub invariant-push_labels-loop-s : goal.invariant-push_labels-loop-s
invariant-push_labels-loop-s l = l.out.items ++ list_labels (stmt_trees (drop l.s-index l.s-items)) ≡ l.fn.out.items ++ list_labels (stmt_trees l.s-items)

abbrev pub invariant-push_arm_labels-loop-arm : goal.invariant-push_arm_labels-loop-arm
invariant-push_arm_labels-loop-arm l = l.out.items ++ arms_labels (arm_trees (drop l.arm-index l.arm-items)) ≡ l.fn.out.items ++ arms_labels (arm_trees l.arm-items)
