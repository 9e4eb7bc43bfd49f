use Rattle.std.proofs.Common.{◌≡◌, drop, map}
use Rattle.f77_ast.specs.PlainStmt.{stmt_trees, arm_trees}
use Rattle.f77_ast.specs.Shapes.{walk_list, walk_arms}
use Rattle.f77_ast.specs.Symbols.{symbol_tree}
use Rattle.reductions.specs.Standings.{both, the_standing}
use Rattle.reductions.proofs.standing.+standings.Given as goal

abbrev pub invariant-in_list-loop-s : goal.invariant-in_list-loop-s
invariant-in_list-loop-s l =
    let w = the_standing (map symbol_tree l.symbols) (symbol_tree l.v) in
    both l.found (walk_list w (stmt_trees (drop l.s-index l.s-items))) ≡ walk_list w (stmt_trees l.s-items)

abbrev pub invariant-in_arms-loop-arm : goal.invariant-in_arms-loop-arm
invariant-in_arms-loop-arm l =
    let w = the_standing (map symbol_tree l.symbols) (symbol_tree l.v) in
    both l.found (walk_arms w (arm_trees (drop l.arm-index l.arm-items))) ≡ walk_arms w (arm_trees l.arm-items)
