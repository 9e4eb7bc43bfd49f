use Rattle.std.proofs.Common.{◌≡◌, length}
use Rattle.f77_ast.specs.PlainStmt.{stmt_trees}
use Rattle.transformers.specs.Jumps.{such_of}
use Rattle.transformers.specs.Whiles.{only_last}
use Rattle.transformers.proofs.whiles.only_last.Given as goal

abbrev pub invariant-loop-rest : goal.invariant-loop-rest
invariant-loop-rest l = only_last (such_of l.sought) (stmt_trees l.rest) ≡ only_last (such_of l.sought) (stmt_trees l.list)

abbrev pub decreases-loop-rest : goal.decreases-loop-rest
decreases-loop-rest l = length l.rest
