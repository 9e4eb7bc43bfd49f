use Rattle.std.proofs.Common.{◌≡◌, ◌++◌, drop, map}
use Rattle.f77_ast.specs.PlainDecl.{data_tree}
use Rattle.f77_parser.specs.Standing.{target_names}
use Rattle.f77_parser.proofs.standing.add_targets.Given as goal

abbrev pub invariant-loop-group : goal.invariant-loop-group
invariant-loop-group l = l.names ++ target_names (map data_tree (drop l.group-index l.group-items)) ≡ l.fn.names ++ target_names (map data_tree l.group-items)
