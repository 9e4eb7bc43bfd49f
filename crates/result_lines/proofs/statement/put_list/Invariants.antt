use Rattle.std.proofs.Common.{◌≡◌, ◌++◌, drop}
use Rattle.std.specs.List.{flat_map}
use Rattle.f77_ast.specs.PlainStmt.{stmt_trees}
use Rattle.result_lines.specs.ScalarLines.{said, list_lines}
use Rattle.result_lines.specs.ClaimSpots.{spot_lines}
use Rattle.result_lines.proofs.statement.put_list.Given as goal

abbrev pub invariant-loop-spot : goal.invariant-loop-spot
invariant-loop-spot l = l.out ++ flat_map (spot_lines (said l.said.names.now l.said.own.now l.said.pre.now)) (drop l.spot-index l.spot-items) ≡ l.fn.out ++ list_lines (stmt_trees l.list) (said l.said.names.now l.said.own.now l.said.pre.now)
