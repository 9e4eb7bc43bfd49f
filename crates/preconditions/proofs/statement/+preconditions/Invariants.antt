use Rattle.std.proofs.Common.{◌≡◌, ◌++◌, drop}
use Rattle.affine_systems.specs.Given.{Fits}
use Rattle.f77_ast.specs.PlainStmt.{stmt_trees, arm_trees}
use Rattle.preconditions.specs.Statement.{after_each, before_last, after_arms, past_arms, at_each, at_all, at_arms, AllFit, EachFits}
use Rattle.preconditions.specs.Known.{scope_in, found_in}
use Rattle.preconditions.proofs.statement.+preconditions.Given as goal

abbrev pub invariant-at_each_the_same-loop-s : goal.invariant-at_each_the_same-loop-s
invariant-at_each_the_same-loop-s l = record {
  added : l.at ++ at_all (stmt_trees (drop l.s-index l.s-items)) (scope_in l.known) (found_in l.known) l.p ≡ l.fn.at ++ at_all (stmt_trees l.s-items) (scope_in l.known) (found_in l.known) l.p;
  fits : EachFits l.at;
}

abbrev pub invariant-after_each-loop-s : goal.invariant-after_each-loop-s
invariant-after_each-loop-s l = record {
  value : after_each (stmt_trees (drop l.s-index l.s-items)) (scope_in l.known) (found_in l.known) l.holds ≡ after_each (stmt_trees l.s-items) (scope_in l.known) (found_in l.known) l.fn.p;
  gives : Fits l.holds;
  added : l.at ++ at_each (stmt_trees (drop l.s-index l.s-items)) (scope_in l.known) (found_in l.known) l.holds ≡ l.fn.at ++ at_each (stmt_trees l.s-items) (scope_in l.known) (found_in l.known) l.fn.p;
  fits : EachFits l.at;
}

abbrev pub invariant-before_last-loop-place : goal.invariant-before_last-loop-place
invariant-before_last-loop-place l = record {
  value : before_last (stmt_trees (drop l.place l.statements)) (scope_in l.known) (found_in l.known) l.holds ≡ before_last (stmt_trees l.statements) (scope_in l.known) (found_in l.known) l.fn.p;
  gives : Fits l.holds;
  added : l.at ++ at_each (stmt_trees (drop l.place l.statements)) (scope_in l.known) (found_in l.known) l.holds ≡ l.fn.at ++ at_each (stmt_trees l.statements) (scope_in l.known) (found_in l.known) l.fn.p;
  fits : EachFits l.at;
}

abbrev pub invariant-after_arms-loop-arm : goal.invariant-after_arms-loop-arm
invariant-after_arms-loop-arm l = record {
  value : past_arms (arm_trees (drop l.arm-index l.arm-items)) (scope_in l.known) l.before ≡ past_arms (arm_trees l.arm-items) (scope_in l.known) l.fn.p;
  gives : Fits l.before;
  ends : l.ends.items ++ after_arms (arm_trees (drop l.arm-index l.arm-items)) (scope_in l.known) (found_in l.known) l.before ≡ l.fn.ends.items ++ after_arms (arm_trees l.arm-items) (scope_in l.known) (found_in l.known) l.fn.p;
  ends_fit : AllFit l.ends.items;
  added : l.at ++ at_arms (arm_trees (drop l.arm-index l.arm-items)) (scope_in l.known) (found_in l.known) l.before ≡ l.fn.at ++ at_arms (arm_trees l.arm-items) (scope_in l.known) (found_in l.known) l.fn.p;
  fits : EachFits l.at;
}
