use Rattle.std.proofs.Common.{◌≡◌, length}
use Rattle.f77_ast.specs.PlainStmt.{stmt_trees}
use Rattle.loop_marker.specs.Jumps.{may_stop}
use Rattle.loop_marker.proofs.jumps.may_stop.Given as goal

abbrev pub invariant-loop-rest : goal.invariant-loop-rest
invariant-loop-rest l = may_stop l.effects (stmt_trees l.rest) ≡ may_stop l.effects (stmt_trees l.list)

abbrev pub decreases-loop-rest : goal.decreases-loop-rest
decreases-loop-rest l = length l.rest
