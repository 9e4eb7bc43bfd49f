use Rattle.std.proofs.Common.{◌≡◌, ◌++◌, length}
use Rattle.f77_ast.specs.PlainStmt.{stmt_trees}
use Rattle.out_regions.specs.Leaving.{list_labels}
use Rattle.out_regions.proofs.leaving.labels_in.Given as goal

abbrev pub invariant-loop-rest : goal.invariant-loop-rest
invariant-loop-rest l = l.labels.items ++ list_labels (stmt_trees l.rest) ≡ list_labels (stmt_trees l.list)

abbrev pub decreases-loop-rest : goal.decreases-loop-rest
decreases-loop-rest l = length l.rest
