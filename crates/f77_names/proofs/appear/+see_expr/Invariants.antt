use Rattle.std.proofs.Common.{◌≡◌, drop, map}
use Rattle.f77_ast.specs.Plain.{expr_trees}
use Rattle.f77_names.specs.Entries.{entry_tree}
use Rattle.f77_names.specs.Appearing.{exprs_seen}
use Rattle.f77_names.proofs.appear.+see_expr.Given as goal

abbrev pub invariant-see_exprs-loop-e : goal.invariant-see_exprs-loop-e
invariant-see_exprs-loop-e l = exprs_seen l.sight.arrays.now (expr_trees (drop l.e-index l.e-items)) l.line (map entry_tree l.names) ≡ exprs_seen l.sight.arrays.now (expr_trees l.e-items) l.line (map entry_tree l.fn.names)
