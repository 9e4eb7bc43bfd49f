use Rattle.std.proofs.Common.{◌≡◌, drop, map}
use Rattle.f77_ast.specs.PlainStmt.{stmt_trees, arm_trees}
use Rattle.f77_ast.specs.Symbols.{symbol_tree}
use Rattle.call_graph.specs.Calls.{with_list, with_arms}
use Rattle.call_graph.proofs.calls.+calls.Given as goal

abbrev pub invariant-add_list-loop-s : goal.invariant-add_list-loop-s
invariant-add_list-loop-s l =
    with_list (stmt_trees (drop l.s-index l.s-items)) (map symbol_tree l.symbols) l.calls ≡ with_list (stmt_trees l.s-items) (map symbol_tree l.symbols) l.fn.calls

abbrev pub invariant-add_arms-loop-arm : goal.invariant-add_arms-loop-arm
invariant-add_arms-loop-arm l =
    with_arms (arm_trees (drop l.arm-index l.arm-items)) (map symbol_tree l.symbols) l.calls ≡ with_arms (arm_trees l.arm-items) (map symbol_tree l.symbols) l.fn.calls
