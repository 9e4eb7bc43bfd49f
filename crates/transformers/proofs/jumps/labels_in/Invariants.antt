use Rattle.std.proofs.Common.{◌≡◌, ◌++◌, length}
use Rattle.f77_ast.specs.PlainStmt.{stmt_trees}
use Rattle.transformers.specs.Jumps.{labels}
use Rattle.transformers.proofs.jumps.labels_in.Given as goal

abbrev pub invariant-loop-rest : goal.invariant-loop-rest
invariant-loop-rest l = l.labels.items ++ labels (stmt_trees l.rest) ≡ labels (stmt_trees l.fn.list)

abbrev pub decreases-loop-rest : goal.decreases-loop-rest
decreases-loop-rest l = length l.rest
