use Rattle.std.proofs.Common.{◌≡◌, ◌++◌, drop}
use Rattle.affine_systems.specs.Given.{Fits}
use Rattle.f77_ast.specs.PlainStmt.{stmt_trees, arm_trees}
use Rattle.affine_forms.specs.Conditions.{no_rows}
use Rattle.call_translation.specs.transformer_algebra.Transformers.{AllFit}
use Rattle.transformers.specs.Given.{ResultsFit}
use Rattle.transformers.specs.Statement.{scope_in, callees_in, each_transformer, arm_transformers, without_arms, at_list, at_arms}
use Rattle.transformers.proofs.statement.+transformers.Given as goal

abbrev pub invariant-each_transformer-loop-place : goal.invariant-each_transformer-loop-place
invariant-each_transformer-loop-place l = record {
  value : l.all.items ++ each_transformer (stmt_trees (drop l.place l.statements)) (scope_in l.known) (callees_in l.known) l.whole ≡ each_transformer (stmt_trees l.statements) (scope_in l.known) (callees_in l.known) l.whole;
  gives : AllFit l.all.items;
  added : l.at ++ at_list (stmt_trees (drop l.place l.statements)) (scope_in l.known) (callees_in l.known) l.whole ≡ l.fn.at ++ at_list (stmt_trees l.statements) (scope_in l.known) (callees_in l.known) l.whole;
  fit : ResultsFit l.at;
}

abbrev pub invariant-arm_transformers-loop-arm : goal.invariant-arm_transformers-loop-arm
invariant-arm_transformers-loop-arm l = record {
  value : l.all.items ++ arm_transformers (arm_trees (drop l.arm-index l.arm-items)) (scope_in l.known) (callees_in l.known) l.before ≡ arm_transformers (arm_trees l.arm-items) (scope_in l.known) (callees_in l.known) no_rows;
  before : without_arms (arm_trees (drop l.arm-index l.arm-items)) (scope_in l.known) l.before ≡ without_arms (arm_trees l.arm-items) (scope_in l.known) no_rows;
  gives : AllFit l.all.items;
  holds : Fits l.before;
  added : l.at ++ at_arms (arm_trees (drop l.arm-index l.arm-items)) (scope_in l.known) (callees_in l.known) ≡ l.fn.at ++ at_arms (arm_trees l.arm-items) (scope_in l.known) (callees_in l.known);
  fit : ResultsFit l.at;
}
