use Rattle.std.proofs.Common.{◌≡◌, ◌++◌, drop, map}
use Rattle.f77_ast.specs.Plain.{expr_tree, expr_trees}
use Rattle.bound_check.specs.Checked.{all_judged}
use Rattle.bound_check.specs.Views.{known_tree}
use Rattle.bound_check.proofs.judged.push_all.Given as goal

abbrev pub invariant-loop-e : goal.invariant-loop-e
invariant-loop-e l = record {
  safe : map expr_tree l.out.safe ++ (all_judged (known_tree l.known) l.holds.rows (expr_trees (drop l.e-index l.e-items))).safe ≡ map expr_tree l.fn.out.safe ++ (all_judged (known_tree l.known) l.holds.rows (expr_trees l.e-items)).safe;
  others : map expr_tree l.out.others ++ (all_judged (known_tree l.known) l.holds.rows (expr_trees (drop l.e-index l.e-items))).others ≡ map expr_tree l.fn.out.others ++ (all_judged (known_tree l.known) l.holds.rows (expr_trees l.e-items)).others;
}
