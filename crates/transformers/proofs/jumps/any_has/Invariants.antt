use Rattle.std.proofs.Common.{◌≡◌, length}
use Rattle.f77_ast.specs.PlainStmt.{stmt_trees}
use Rattle.transformers.specs.Jumps.{list_has, such_of}
use Rattle.transformers.proofs.jumps.any_has.Given as goal

abbrev pub invariant-loop-rest : goal.invariant-loop-rest
invariant-loop-rest l = list_has (such_of l.sought) (stmt_trees l.rest) ≡ list_has (such_of l.sought) (stmt_trees l.list)

abbrev pub decreases-loop-rest : goal.decreases-loop-rest
decreases-loop-rest l = length l.rest
