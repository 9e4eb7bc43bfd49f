use Rattle.std.proofs.Common.{◌≡◌, ◌++◌, drop, reverse}
use Rattle.std.specs.Prelude.{All}
use Rattle.f77_ast.specs.PlainStmt.{stmt_trees, arm_trees}
use Rattle.in_out_regions.specs.region_sets.Lists.{SetsFit}
use Rattle.in_out_regions.specs.region_sets.Sets.{SetFits}
use Rattle.out_regions.specs.Contexts.{known_in, RestFits}
use Rattle.out_regions.specs.Lists.{rests_behind}
use Rattle.out_regions.specs.Statement.{at_arms, at_any, at_rest}
use Rattle.out_regions.proofs.statement.+outs.Given as goal

abbrev pub invariant-put_arms-loop-arm : goal.invariant-put_arms-loop-arm
invariant-put_arms-loop-arm l = record {
  added : l.at ++ at_arms (arm_trees (drop l.arm-index l.arm-items)) (known_in l.known) l.out ≡ l.fn.at ++ at_arms (arm_trees l.arm-items) (known_in l.known) l.out;
  fits : SetsFit l.at;
}

abbrev pub invariant-put_any-loop-s : goal.invariant-put_any-loop-s
invariant-put_any-loop-s l = record {
  added : l.at ++ at_any (stmt_trees (drop l.s-index l.s-items)) (known_in l.known) l.later ≡ l.fn.at ++ at_any (stmt_trees l.s-items) (known_in l.known) l.later;
  fits : SetsFit l.at;
}

abbrev pub invariant-put_rest-loop-s : goal.invariant-put_rest-loop-s
invariant-put_rest-loop-s l = record {
  rests : reverse l.rests.items ≡ rests_behind (known_in l.known) l.whole (stmt_trees (drop l.s-index l.s-items));
  rests_fit : All RestFits l.rests.items;
  added : l.at ++ at_rest l.whole (stmt_trees (drop l.s-index l.s-items)) (known_in l.known) l.current ≡ l.fn.at ++ at_rest l.whole (stmt_trees l.s-items) (known_in l.known) l.out;
  current : SetFits l.current;
  fits : SetsFit l.at;
}
