use Rattle.std.proofs.Common.{◌≡◌, ◌++◌, drop}
use Rattle.f77_ast.specs.PlainStmt.{stmt_trees, arm_trees}
use Rattle.region_translation.specs.region_sets.Lists.{SetsFit}
use Rattle.region_translation.specs.region_sets.Sets.{SetFits}
use Rattle.array_regions.specs.Arms.{ReachedFits, always, past_arms}
use Rattle.array_regions.specs.Known.{scope_in, found_in, called_in}
use Rattle.array_regions.specs.Statement.{arm_sets, at_list, at_arms}
use Rattle.array_regions.proofs.statement.+regions.Given as goal

abbrev pub invariant-each_set-loop-s : goal.invariant-each_set-loop-s
invariant-each_set-loop-s l = record {
  same : l.found ++ at_list (stmt_trees (drop l.s-index l.s-items)) (scope_in l.known) (found_in l.known) (called_in l.known) ≡ at_list (stmt_trees l.s-items) (scope_in l.known) (found_in l.known) (called_in l.known);
  fits : SetsFit l.found;
}

abbrev pub invariant-push_arms-loop-arm : goal.invariant-push_arms-loop-arm
invariant-push_arms-loop-arm l = record {
  past : past_arms (arm_trees (drop l.arm-index l.arm-items)) (scope_in l.known) l.way ≡ past_arms (arm_trees l.arm-items) (scope_in l.known) always;
  past_fits : ReachedFits l.way;
  regions : l.out ++ arm_sets (arm_trees (drop l.arm-index l.arm-items)) (scope_in l.known) (found_in l.known) (called_in l.known) l.way ≡ l.fn.out ++ arm_sets (arm_trees l.arm-items) (scope_in l.known) (found_in l.known) (called_in l.known) always;
  gives : SetFits l.out;
  added : l.at ++ at_arms (arm_trees (drop l.arm-index l.arm-items)) (scope_in l.known) (found_in l.known) (called_in l.known) ≡ l.fn.at ++ at_arms (arm_trees l.arm-items) (scope_in l.known) (found_in l.known) (called_in l.known);
  fits : SetsFit l.at;
}
