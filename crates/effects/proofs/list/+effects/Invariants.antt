use Rattle.std.proofs.Common.{◌≡◌, ◌++◌, drop, map}
use Rattle.f77_ast.specs.PlainStmt.{stmt_trees, arm_trees}
use Rattle.f77_ast.specs.Symbols.{symbol_tree}
use Rattle.f77_ast.specs.Summaries.{summary_in}
use Rattle.effects.specs.List.{with_list, with_arms, at_list, at_arms}
use Rattle.effects.proofs.list.+effects.Given as goal

abbrev pub invariant-with_list-loop-s : goal.invariant-with_list-loop-s
invariant-with_list-loop-s l = record {
  value : with_list (stmt_trees (drop l.s-index l.s-items)) (summary_in l.callees) (map symbol_tree l.symbols) l.all ≡ with_list (stmt_trees l.s-items) (summary_in l.callees) (map symbol_tree l.symbols) l.fn.so_far;
  added : l.at ++ at_list (stmt_trees (drop l.s-index l.s-items)) (summary_in l.callees) (map symbol_tree l.symbols) ≡ l.fn.at ++ at_list (stmt_trees l.s-items) (summary_in l.callees) (map symbol_tree l.symbols);
}

abbrev pub invariant-with_arms-loop-arm : goal.invariant-with_arms-loop-arm
invariant-with_arms-loop-arm l = record {
  value : with_arms (arm_trees (drop l.arm-index l.arm-items)) (summary_in l.callees) (map symbol_tree l.symbols) l.all ≡ with_arms (arm_trees l.arm-items) (summary_in l.callees) (map symbol_tree l.symbols) l.fn.so_far;
  added : l.at ++ at_arms (arm_trees (drop l.arm-index l.arm-items)) (summary_in l.callees) (map symbol_tree l.symbols) ≡ l.fn.at ++ at_arms (arm_trees l.arm-items) (summary_in l.callees) (map symbol_tree l.symbols);
}
