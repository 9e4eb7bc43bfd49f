use Rattle.std.proofs.Common.{◌≡◌, ◌++◌, drop}
use Rattle.f77_ast.specs.PlainStmt.{stmt_trees, arm_trees}
use Rattle.array_regions.specs.region_sets.Lists.{SetsFit}
use Rattle.array_regions.specs.region_sets.Sets.{SetFits}
use Rattle.array_regions.specs.Arms.{ReachedFits, always, past_arms}
use Rattle.in_out_regions.specs.Contexts.{known_in}
use Rattle.in_out_regions.specs.Statement.{arms_in, at_list, at_arms}
use Rattle.in_out_regions.proofs.statement.+ins.Given as goal

abbrev pub invariant-each_set-loop-s : goal.invariant-each_set-loop-s
invariant-each_set-loop-s l = record {
  same : l.found ++ at_list (stmt_trees (drop l.s-index l.s-items)) (known_in l.known) ≡ at_list (stmt_trees l.s-items) (known_in l.known);
  fits : SetsFit l.found;
}

abbrev pub invariant-push_arms-loop-arm : goal.invariant-push_arms-loop-arm
invariant-push_arms-loop-arm l = record {
  past : past_arms (arm_trees (drop l.arm-index l.arm-items)) (known_in l.known).scope l.way ≡ past_arms (arm_trees l.arm-items) (known_in l.known).scope always;
  past_fits : ReachedFits l.way;
  regions : l.out ++ arms_in (arm_trees (drop l.arm-index l.arm-items)) (known_in l.known) l.way ≡ l.fn.out ++ arms_in (arm_trees l.arm-items) (known_in l.known) always;
  gives : SetFits l.out;
  added : l.at ++ at_arms (arm_trees (drop l.arm-index l.arm-items)) (known_in l.known) ≡ l.fn.at ++ at_arms (arm_trees l.arm-items) (known_in l.known);
  fits : SetsFit l.at;
}
