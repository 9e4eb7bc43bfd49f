use Rattle.std.proofs.Common.{◌≡◌, ◌++◌, drop}
use Rattle.f77_ast.specs.PlainStmt.{stmt_trees, arm_trees}
use Rattle.f77_ast.specs.Shapes.{walk_list, walk_arms}
use Rattle.f77_ast.specs.StatementNumbers.{list_numbers, arms_numbers}
use Rattle.base_values.specs.Modules.{the_loops}
use Rattle.base_values.proofs.statements.+numbers.Given as goal

abbrev pub invariant-put_list-loop-s : goal.invariant-put_list-loop-s
invariant-put_list-loop-s l =
    (l.statements ++ list_numbers (stmt_trees (drop l.s-index l.s-items)) ≡ l.fn.statements ++ list_numbers (stmt_trees l.s-items))
    × (l.loops ++ walk_list the_loops (stmt_trees (drop l.s-index l.s-items)) ≡ l.fn.loops ++ walk_list the_loops (stmt_trees l.s-items))

abbrev pub invariant-put_arms-loop-arm : goal.invariant-put_arms-loop-arm
invariant-put_arms-loop-arm l =
    (l.statements ++ arms_numbers (arm_trees (drop l.arm-index l.arm-items)) ≡ l.fn.statements ++ arms_numbers (arm_trees l.arm-items))
    × (l.loops ++ walk_arms the_loops (arm_trees (drop l.arm-index l.arm-items)) ≡ l.fn.loops ++ walk_arms the_loops (arm_trees l.arm-items))
