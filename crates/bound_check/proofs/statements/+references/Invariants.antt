use Rattle.std.proofs.Common.{◌≡◌, ℕ, true, drop}
use Rattle.f77_ast.specs.PlainStmt.{stmt_trees, arm_trees}
use Rattle.f77_ast.specs.Shapes.{walk_list, walk_arms}
use Rattle.bound_check.specs.Checked.{join, the_references}
use Rattle.bound_check.specs.Views.{known_tree, seen_tree}
use Rattle.bound_check.proofs.statements.+references.Given as goal

abbrev pub invariant-in_list-loop-s : goal.invariant-in_list-loop-s
invariant-in_list-loop-s l =
    let w = the_references (known_tree l.known) in
    (outer : ℕ) → join (seen_tree l.seen) (walk_list w (stmt_trees (drop l.s-index l.s-items)) outer true) ≡ walk_list w (stmt_trees l.s-items) outer true

abbrev pub invariant-in_arms-loop-arm : goal.invariant-in_arms-loop-arm
invariant-in_arms-loop-arm l =
    let w = the_references (known_tree l.known) in
    join (seen_tree l.seen) (walk_arms w (arm_trees (drop l.arm-index l.arm-items)) l.id true) ≡ walk_arms w (arm_trees l.arm-items) l.id true
