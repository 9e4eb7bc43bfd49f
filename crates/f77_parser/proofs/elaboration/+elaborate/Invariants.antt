use Rattle.std.proofs.Common.{◌≡◌, ◌++◌, drop, map}
use Rattle.f77_ast.specs.PlainStmt.{stmt_tree, stmt_trees, arm_tree, arm_trees}
use Rattle.f77_parser.specs.Elaborated.{elaborated_arms, elaborated_in, hidden_arms, hidden_in, values_arms, values_in}
use Rattle.f77_parser.specs.Known.{meant}
use Rattle.f77_parser.proofs.ElaborateLaws.{onto, arms_onto}
use Rattle.f77_parser.proofs.elaboration.+elaborate.Given as goal

abbrev pub invariant-elaborated_list-loop-s : goal.invariant-elaborated_list-loop-s
invariant-elaborated_list-loop-s l = record {
  tree : onto (map stmt_tree l.made) (elaborated_in (meant l.known) l.count.hidden (stmt_trees (drop l.s-index l.s-items))) ≡ elaborated_in (meant l.known) l.fn.count.hidden (stmt_trees l.s-items);
  hidden : hidden_in (meant l.known) l.count.hidden (stmt_trees (drop l.s-index l.s-items)) ≡ hidden_in (meant l.known) l.fn.count.hidden (stmt_trees l.s-items);
  values : l.count.references ++ values_in (meant l.known) (stmt_trees (drop l.s-index l.s-items)) ≡ l.fn.count.references ++ values_in (meant l.known) (stmt_trees l.s-items);
}

abbrev pub invariant-elaborated_arms-loop-arm : goal.invariant-elaborated_arms-loop-arm
invariant-elaborated_arms-loop-arm l = record {
  tree : arms_onto (map arm_tree l.made) (elaborated_arms (meant l.known) l.count.hidden (arm_trees (drop l.arm-index l.arm-items))) ≡ elaborated_arms (meant l.known) l.fn.count.hidden (arm_trees l.arm-items);
  hidden : hidden_arms (meant l.known) l.count.hidden (arm_trees (drop l.arm-index l.arm-items)) ≡ hidden_arms (meant l.known) l.fn.count.hidden (arm_trees l.arm-items);
  values : l.count.references ++ values_arms (meant l.known) (arm_trees (drop l.arm-index l.arm-items)) ≡ l.fn.count.references ++ values_arms (meant l.known) (arm_trees l.arm-items);
}
