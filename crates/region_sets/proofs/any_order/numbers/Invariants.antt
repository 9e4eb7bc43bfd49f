use Rattle.std.proofs.Common.{◌≡◌, length, ◌++◌}
use Rattle.f77_ast.specs.PlainStmt.{stmt_trees}
use Rattle.region_sets.specs.Lists.{numbers}
use Rattle.region_sets.proofs.any_order.numbers.Given as goal

abbrev pub invariant-loop-rest : goal.invariant-loop-rest
invariant-loop-rest l = l.out.items ++ numbers (stmt_trees l.rest) ≡ numbers (stmt_trees l.list)

abbrev pub decreases-loop-rest : goal.decreases-loop-rest
decreases-loop-rest l = length l.rest
